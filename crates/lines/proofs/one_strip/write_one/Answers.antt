use Rattle.std.proofs.Common.{rules}
use Rattle.lines.proofs.Drawing.{strip_accepted}
use Rattle.lines.proofs.one_strip.write_one.Goals as goal

pub unwrap-requires : goal.unwrap-requires
unwrap-requires g c =
    let e = strip_accepted (g.K.Sink.meaning c.args.sink.now) c.args.offset c.args.numbers.now c.requires in
    let f = c.write_strip.ensures.answers in
    search rules

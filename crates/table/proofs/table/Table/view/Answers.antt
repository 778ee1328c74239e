use Rattle.std.proofs.Common.{refl}
use Rattle.table.proofs.Viewing.{contents, edges, readings, shows_read}
use Rattle.table.proofs.table.Table.view.Goals as goal

pub index-f-requires : goal.index-f-requires
index-f-requires c = readings c.args.self.now c.args.i c.requires

pub edge_slice-requires : goal.edge_slice-requires
edge_slice-requires c = (edges c.args.self.now c.args.i c.requires c.index-t.result.now c.index-t.ensures).0

pub index-requires : goal.index-requires
index-requires c = contents c.args.self.now c.args.i c.requires

pub returns : goal.returns
returns c =
    shows_read c.args.self.now c.args.i c.requires c.index-t.result.now c.index-t.ensures c.index-f.result.now c.index.result.now _
    c.index-f.ensures c.index.ensures
    record {
      a_is = refl;
      b_is = refl;
      c_is = refl;
      on_ab = c.edge_slice.ensures;
      on_bc = c.edge_slice-2.ensures;
      on_ca = c.edge_slice-3.ensures;
      inner_is = refl;
      rings_are = c.deref.ensures.value;
      depth_is = refl;
    }

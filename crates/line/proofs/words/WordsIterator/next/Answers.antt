use Rattle.std.proofs.Common.{◌≡◌, take, drop, IsUtf8, sym, ap, ◌∙◌, subst, rules, tests}
use Rattle.std.specs.Iterator.{YieldsFirstRef}
use Rattle.std.specs.Str.{IsCharBoundary}
use Rattle.std.specs.List.{prefix_len}
use Rattle.std.proofs.lemmas.Iterator.{YieldsList-from_slice}
use Rattle.std.proofs.lemmas.Iterator.Search.{YieldsList-from_take_while}
use Rattle.std.proofs.lemmas.Iterator.Consumers.{YieldsList-at, count_from_yields_List}
use Rattle.std.proofs.lemmas.List.Folds.{length-prefix_len}
use Rattle.line.specs.Words.{blank, letter, words}
use Rattle.line.proofs.Cuts.{boundary_blanks, boundary_letters, next_word, fewer_words}
use Rattle.line.proofs.words.WordsIterator.next.Goals.{After-count-blanks, After-count-letters, After-then_some}
use Rattle.line.proofs.words.WordsIterator.next.Goals as goal

-- the counts, by the text itself
blanks : (c : After-count-blanks) → c.count-blanks.result ≡ prefix_len blank c.self.inside.rest.now
blanks c =
    count_from_yields_List c.take_while.result _ c.count-blanks.ensures.ran (YieldsList-from_take_while _ blank (YieldsList-at c.take_while.ensures.source (YieldsList-from_slice c.self.inside.rest.now cc)) c.take_while.ensures.closure c.take_while.ensures.done (λ x b q k. search (rules, tests)))
    ∙ length-prefix_len blank c.self.inside.rest.now

letters : (c : After-count-letters) → c.count-letters.result ≡ prefix_len letter c.split_at.result.1.now
letters c =
    count_from_yields_List c.take_while-2.result _ c.count-letters.ensures.ran (YieldsList-from_take_while _ letter (YieldsList-at c.take_while-2.ensures.source (YieldsList-from_slice c.split_at.result.1.now cc)) c.take_while-2.ensures.closure c.take_while-2.ensures.done (λ x b q k. search (rules, tests)))
    ∙ length-prefix_len letter c.split_at.result.1.now

-- the cuts, by the text itself
steps : (c : After-then_some) → c.count-blanks.result ≡ prefix_len blank c.self.inside.rest.now → c.count-letters.result ≡ prefix_len letter c.split_at.result.1.now → YieldsFirstRef words c.self.inside.rest.now c.then_some.result c.split_at-2.result.1.now
steps c m n =
    rw c.then_some.ensures
    (next_word c.self.inside.rest.now c.split_at.result.1.now c.split_at-2.result.1.now c.split_at-2.result.0 c.is_empty.result
    (c.split_at.ensures.back ∙ ap (λ i. drop i c.self.inside.rest.now) m)
    (c.split_at-2.ensures.front ∙ ap (λ i. take i c.split_at.result.1.now) n)
    (c.split_at-2.ensures.back ∙ ap (λ i. drop i c.split_at.result.1.now) n)
    (sym c.is_empty.ensures))

pub split_at-requires : goal.split_at-requires
split_at-requires c =
    subst (IsCharBoundary c.self.inside.rest.now) (sym (blanks (goal.at.split_at-requires c).After-count-blanks))
    (boundary_blanks c.self.inside.rest.now (subst IsUtf8 c.as_bytes.ensures.value c.as_bytes.ensures.utf8))

pub split_at-requires-2 : goal.split_at-requires-2
split_at-requires-2 c =
    subst (IsCharBoundary c.split_at.result.1.now) (sym (letters c)) (boundary_letters c.split_at.result.1.now)

pub returns-clause-steps : goal.returns-clause-steps
returns-clause-steps c =
    let d = goal.at.returns-clause-steps c in
    rw (← c.self.view_is) (steps c (blanks d.After-count-blanks) (letters d.After-count-letters))

pub returns-clause-goes : goal.returns-clause-goes
returns-clause-goes c =
    let d = goal.at.returns-clause-goes c in
    fewer_words _ _ _ (rw (← c.self.view_is) (steps c (blanks d.After-count-blanks) (letters d.After-count-letters)))

-- Strips that a sink takes, written one after another.
use Rattle.std.proofs.Common.{false, leb, ◌≡◌, ℕ, ◌+◌, ◌<◌, cond, T, List, [], ◌∷◌, ◌++◌, map, length, Some, None, Ok, Err, sym, refl, ap, ◌∙◌, subst, arith, length-append}
use base.Fml.{GName}
use lib.ListN.{length-map}
use Rattle.refusal.specs.declared.Refusal.TheVariants.{SinkFull}
use Rattle.pattern.specs.Amounts.{lengths}
use Rattle.shape.specs.Lists.{Each}
use Rattle.questions.proofs.Stepwise.{each_left, each_right}
use Rattle.mesh.specs.Calls.{TakenBy}
use Rattle.mesh.specs.Sinks.{Sink, Writes, nothing, a_number, a_break}
use Rattle.mesh.specs.Strips.{offset_by}
use Rattle.mesh.proofs.Amounts.{lengths-++}
use Rattle.mesh.proofs.Sinks.{sinks_filled}
use Rattle.strips.specs.Taking.{taken_or_full}
use Rattle.strips.specs.Writing.{first_too_large, too_large_or, strip_answer}
use Rattle.strips.proofs.Fitting.{is_true}
use Rattle.lines.specs.Drawing.{Draws}

pub writes_on : (ks ms : List (List ℕ)) (s t u : Sink) → Writes ks s t → Writes ms t u → Writes (ks ++ ms) s u
writes_on ks ms s t u nothing w = w
writes_on ks ms s t u (a_number {l = l} {ls = ls} {s' = s'} p v) w = a_number p (writes_on (l ∷ ls) ms s' t u v w)
writes_on ks ms s t u (a_break {ls = ls} {s' = s'} p v) w = a_break p (writes_on ls ms s' t u v w)

-- where ls are the strips ks and then the strips ms: room for all is room for the first
pub first_taken : {ls : List (List ℕ)} (s : Sink) (ks ms : List (List ℕ)) → ls ≡ ks ++ ms → TakenBy s ls → TakenBy s ks
first_taken s ks ms e t =
    let h : TakenBy s (ks ++ ms) = subst (TakenBy s) e t in
    let p : lengths (ks ++ ms) ≡ lengths ks + lengths ms = lengths-++ ks ms in
    let b : length (ks ++ ms) ≡ length ks + length ms = length-append ks ms in
    (s.smaller (lengths (ks ++ ms)) (length (ks ++ ms)) (lengths ks) (length ks) (omega arith) (omega arith) h.0, each_left (Each (λ x. x < 4294967295)) ks ms h.1)

-- and room for the others once the first are written
pub rest_taken : {ls : List (List ℕ)} (s u : Sink) (ks ms : List (List ℕ)) → ls ≡ ks ++ ms → TakenBy s ls → Writes ks s u → TakenBy u ms
rest_taken s u ks ms e t w =
    let h : TakenBy s (ks ++ ms) = subst (TakenBy s) e t in (
      (sinks_filled ks s u w).0.takes_still (lengths ms) (length ms)
          (subst (λ (b : ℕ). T (s.takes (lengths ks + lengths ms) b)) (length-append ks ms) (subst (λ (p : ℕ). T (s.takes p (length (ks ++ ms)))) (lengths-++ ks ms) h.0)),
      each_right (Each (λ x. x < 4294967295)) ks ms h.1,
    )

numbers_fit : (offset : ℕ) (xs : List ℕ) → Each (λ x. x < 4294967295) (map (λ x. x + offset) xs) → first_too_large offset xs ≡ None
numbers_fit offset [] h = refl
numbers_fit offset (x ∷ xs) h =
    let k : x + offset < 4294967295 = h.0 in
    let n : leb 4294967295 (x + offset) ≡ false = grind arith in
    ap (λ b. cond b (Some (x + offset)) (first_too_large offset xs)) n ∙ numbers_fit offset xs h.1

-- a strip that the sink takes is not refused
pub strip_accepted : (s : Sink) (offset : ℕ) (xs : List ℕ) → TakenBy s (offset_by offset (xs ∷ [])) → strip_answer s xs offset ≡ Ok tt
strip_accepted s offset xs h =
    let l : length (map (λ x. x + offset) xs) ≡ length xs = length-map xs (λ x. x + offset) in
    let e : length (map (λ x. x + offset) xs) + 0 ≡ length xs = omega arith in
    let t : T (s.takes (length xs) 1) = subst (λ (p : ℕ). T (s.takes p 1)) e h.0 in
    ap (λ r. too_large_or r (taken_or_full s (length xs) 1)) (numbers_fit offset xs h.1.0)
    ∙ ap (λ b. cond b (Ok tt) (Err (SinkFull (length xs) 1))) (is_true (s.takes (length xs) 1) t)

module _ {S : Type 0} {meaning : S → Sink} {held : S → List GName} where
  pub none_drawn : (s : S) → Draws meaning held [] s s
  none_drawn s = record { writes = nothing; holds = refl }

  -- the same strips by another name
  pub same_drawn : {ls ks : List (List ℕ)} {old new : S} → ls ≡ ks → Draws meaning held ks old new → Draws meaning held ls old new
  same_drawn {old = old} {new = new} e v = subst (λ (l : List (List ℕ)). Draws meaning held l old new) (sym e) v

  -- strips, and then others
  pub draws_on :
      {ls : List (List ℕ)} {old mid new : S} (ks ms : List (List ℕ)) → ls ≡ ks ++ ms → Draws meaning held ks old mid → Draws meaning held ms mid new
      → Draws meaning held ls old new
  draws_on {old = old} {mid = mid} {new = new} ks ms e v w =
      same_drawn e (record {
        writes = writes_on ks ms (meaning old) (meaning mid) (meaning new) v.writes w.writes;
        holds = w.holds ∙ v.holds;
      })

-- Strips written to a sink: what is closed, what is open, and what it can still take.
use Rattle.std.proofs.Common.{◌≡◌, ℕ, suc, ◌+◌, T, List, [], ◌∷◌, ◌++◌, length, sym, refl, ap, ◌∙◌, subst, ap₂, append_assoc, append-nil, zero-add, arith}
use Rattle.pattern.specs.Amounts.{lengths}
use Rattle.mesh.specs.Sinks.{Sink, Writes, nothing, a_number, a_break, closed_after, last_after, Written, NeverFull, SinksFilled}

nothing_taken : (s : Sink) (p b : ℕ) → T (s.takes (0 + p) (0 + b)) → T (s.takes p b)
nothing_taken s p b t =
    subst (λ (k : ℕ). T (s.takes k b)) (zero-add p) (subst (λ (k : ℕ). T (s.takes (0 + p) k)) (zero-add b) t)

written : (ls : List (List ℕ)) (s s' : Sink) → Writes ls s s' → Written ls s s'
written ls s s' nothing = record { closed_is = sym (append-nil s.closed); last_is = refl; takes_still = λ p b t. nothing_taken s p b t }
written ls s s'' (a_number {x = x} {l = l} {ls = ms} {s' = s'} u w) =
    let r = written (l ∷ ms) s' s'' w in
    record {
      closed_is =
          r.closed_is
          ∙ ap₂ (λ c o. c ++ ((o ++ l) ∷ ms)) u.closed_is u.last_is
          ∙ ap (λ o. s.closed ++ (o ∷ ms)) (append_assoc s.last (x ∷ []) l);
      last_is = r.last_is;
      takes_still = λ p b t. r.takes_still p b (u.takes_still (length l + lengths ms + p) (length (l ∷ ms) + b)
          (subst (λ (k : ℕ). T (s.takes k (length (l ∷ ms) + b))) (let z : suc (length l) + lengths ms + p ≡ suc (length l + lengths ms + p) = omega arith in z) t));
    }
written ls s s'' (a_break {ls = ms} {s' = s'} u w) =
    let r = written ms s' s'' w in
    record {
      closed_is =
          r.closed_is ∙ ap₂ (λ c o. c ++ closed_after o ms) u.closed_is u.last_is
          ∙ append_assoc s.closed (s.last ∷ []) (closed_after [] ms)
          ∙ ap₂ (λ o k. s.closed ++ (o ∷ k)) (sym (append-nil s.last)) (same ms);
      last_is = r.last_is ∙ ap (λ o. last_after o ms) u.last_is ∙ empty ms;
      takes_still = λ p b t. r.takes_still p b (u.takes_still (lengths ms + p) (length ms + b)
          (subst (λ (k : ℕ). T (s.takes k (suc (length ms + b)))) (let z : 0 + lengths ms + p ≡ lengths ms + p = omega arith in z)
          (subst (λ (k : ℕ). T (s.takes (0 + lengths ms + p) k)) (let z : suc (length ms) + b ≡ suc (length ms + b) = omega arith in z) t)));
    }
  where
    same : (ms : List (List ℕ)) → closed_after [] ms ≡ ms
    same [] = refl
    same (m ∷ ms) = refl

    empty : (ms : List (List ℕ)) → last_after [] ms ≡ []
    empty [] = refl
    empty (m ∷ ms) = refl

never_full : (ls : List (List ℕ)) (s s' : Sink) (w : Writes ls s s') → T (s.takes (lengths ls) (length ls)) → NeverFull w
never_full ls s s' nothing t = tt
never_full ls s s'' (a_number {l = l} {ls = ms} {s' = s'} u w) t = (
  s.smaller (suc (length l) + lengths ms) (suc (length ms)) 1 0 (omega arith) (omega arith) t,
  never_full (l ∷ ms) s' s'' w
      (u.takes_still (length l + lengths ms) (suc (length ms))
      (subst (λ (k : ℕ). T (s.takes k (suc (length ms)))) (let z : suc (length l) + lengths ms ≡ suc (length l + lengths ms) = omega arith in z) t)),
)
never_full ls s s'' (a_break {ls = ms} {s' = s'} u w) t = (
  s.smaller (0 + lengths ms) (suc (length ms)) 0 1 (omega arith) (omega arith) t,
  never_full ms s' s'' w
      (u.takes_still (lengths ms) (length ms) (subst (λ (k : ℕ). T (s.takes k (suc (length ms)))) (zero-add (lengths ms)) t)),
)

pub sinks_filled : SinksFilled
sinks_filled ls s s' w = (written ls s s' w, never_full ls s s' w)

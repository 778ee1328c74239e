-- Two tables, one place longer.
use Rattle.std.proofs.Common.{◌≡◌, ℕ, zero, suc, ◌+◌, ◌-◌, ◌<◌, ◌≤◌, T, cond, ◌&&◌, leb, List, [], ◌∷◌, ◌++◌, length, take, drop, set, Ok, Err, sym, refl, ap, ◌∙◌, subst, ap₂, arith, le→leb, leb→le, le-leb, length-set}
use Rattle.std.proofs.lemmas.List.{length-take-le, take_more_set, take-append-le, drop-append-le, take-take}
use Rattle.refusal.specs.declared.Refusal.TheVariants.{SinkFull}
use Rattle.mesh.specs.Sinks.{Pushed, Broken}
use Rattle.strips.specs.Starts.{StartsWithin, cut_at, last_start, start_sink, both, first_of, second_of}
use Rattle.strips.specs.Taking.{taken_or_full}

-- every number of a list is at most n
abbrev AtMost : ℕ → List ℕ → Type 0
AtMost n [] = Unit {0}
AtMost n (e ∷ es) = (e ≤ n) × AtMost n es

at_most : (n b : ℕ) (es : List ℕ) → StartsWithin b es n → AtMost n (take b es)
at_most n zero es w = tt
at_most n (suc b) [] w = tt
at_most n (suc b) (e ∷ es) w = (w 0 (omega arith), at_most n b es (λ k h. w (suc k) (omega arith)))

last_at_most : (n f : ℕ) (es : List ℕ) → f ≤ n → AtMost n es → last_start f es ≤ n
last_at_most n f [] h a = h
last_at_most n f (e ∷ es) h a = last_at_most n e es a.0 a.1

cut_push : (f : ℕ) (es xs ys : List ℕ) → AtMost (length xs) es → cut_at f es (xs ++ ys) ≡ cut_at f es xs
cut_push f [] xs ys a = refl
cut_push f (e ∷ es) xs ys a = ap₂ (λ l ls. drop f l ∷ ls) (take-append-le e xs ys a.0) (cut_push e es xs ys a.1)

cut_break : (f : ℕ) (es xs : List ℕ) (e : ℕ) → cut_at f (es ++ (e ∷ [])) xs ≡ cut_at f es xs ++ (drop (last_start f es) (take e xs) ∷ [])
cut_break f [] xs e = refl
cut_break f (d ∷ es) xs e = ap (λ ls. drop f (take d xs) ∷ ls) (cut_break d es xs e)

last_break : (f : ℕ) (es : List ℕ) (e : ℕ) → last_start f (es ++ (e ∷ [])) ≡ e
last_break f [] e = refl
last_break f (d ∷ es) e = last_break d es e

drop_taken : (n : ℕ) (xs : List ℕ) → drop n (take n xs) ≡ []
drop_taken zero xs = refl
drop_taken (suc n) [] = refl
drop_taken (suc n) (x ∷ xs) = drop_taken n xs

one_less : (n k u m : ℕ) → m ≡ n → T (leb (suc k) (n - u)) → T (leb k (m - (u + 1)))
one_less n k u m e t = let z = leb→le (suc k) (n - u) t in le→leb k (m - (u + 1)) (omega arith)

-- one place more in the one table takes a number, in the other a break
pub start_takes :
    (u : ℕ) (xs : List ℕ) (b : ℕ) (es : List ℕ) (p d : ℕ) → p ≤ length xs - u → d ≤ length es - b → taken_or_full (start_sink u xs b es) p d ≡ Ok tt
start_takes u xs b es p d h k =
    ap (λ t. cond (t && leb d (length es - b)) (Ok tt) (Err (SinkFull p d))) (le-leb p (length xs - u) h)
    ∙ ap (λ t. cond t (Ok tt) (Err (SinkFull p d))) (le-leb d (length es - b) k)

pub start_push :
    (u : ℕ) (xs : List ℕ) (b : ℕ) (es : List ℕ) (x : ℕ) → u < length xs → StartsWithin b es u
    → Pushed x (start_sink u xs b es) (start_sink (u + 1) (set xs u x) b es)
start_push u xs b es x h w =
    let e : take (u + 1) (set xs u x) ≡ take u xs ++ (x ∷ []) = take_more_set xs u x h in
    let long : length (take u xs) ≡ u = length-take-le u xs (omega arith) in
    let a : AtMost (length (take u xs)) (take b es) = subst (λ (n : ℕ). AtMost n (take b es)) (sym long) (at_most u b es w) in
    let m : last_start 0 (take b es) ≤ length (take u xs) = last_at_most (length (take u xs)) 0 (take b es) (omega arith) a in
    record {
      closed_is = ap (cut_at 0 (take b es)) e ∙ cut_push 0 (take b es) (take u xs) (x ∷ []) a;
      last_is = ap (drop (last_start 0 (take b es))) e ∙ drop-append-le (last_start 0 (take b es)) (take u xs) (x ∷ []) m;
      takes_still = λ p d t.
          let A = leb (suc p) (length xs - u) in
          let B = leb d (length es - b) in
          both (leb p (length (set xs u x) - (u + 1))) B
          (one_less (length xs) p u (length (set xs u x)) (length-set xs u x) (first_of A B t)) (second_of A B t);
    }

pub start_break :
    (u : ℕ) (xs : List ℕ) (b : ℕ) (es : List ℕ) → b < length es → Broken (start_sink u xs b es) (start_sink u xs (b + 1) (set es b u))
start_break u xs b es h =
    let e : take (b + 1) (set es b u) ≡ take b es ++ (u ∷ []) = take_more_set es b u h in
    let all : take u (take u xs) ≡ take u xs = take-take u u xs (omega arith) in
    record {
      closed_is =
          ap (λ l. cut_at 0 l (take u xs)) e ∙ cut_break 0 (take b es) (take u xs) u
          ∙ ap (λ l. cut_at 0 (take b es) (take u xs) ++ (drop (last_start 0 (take b es)) l ∷ [])) all;
      last_is = ap (λ l. drop (last_start 0 l) (take u xs)) e ∙ ap (λ n. drop n (take u xs)) (last_break 0 (take b es) u) ∙ drop_taken u xs;
      takes_still = λ p d t.
          let A = leb p (length xs - u) in
          let B = leb (suc d) (length es - b) in
          both A (leb d (length (set es b u) - (b + 1)))
          (first_of A B t) (one_less (length es) d b (length (set es b u)) (length-set es b u) (second_of A B t));
    }

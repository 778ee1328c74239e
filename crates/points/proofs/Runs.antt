-- What any list of calls leads to: a reached numbering and its count, and, where the mesh is settled, its points as calculated.
use Rattle.std.proofs.Common.{◌≡◌, ℕ, ◌+◌, ◌≤◌, Bool, true, false, T, leb, List, [], ◌∷◌, length, Ok, sym, refl, ap, ◌∙◌, subst, arith, leb→le}
use Rattle.refusal.specs.declared.Refusal.TheVariants.{SubdividedTooOften}
use Rattle.shape.specs.declared.triangle.Triangle.{Triangle}
use Rattle.shape.specs.Questions.{Accepted}
use Rattle.mesh.specs.Making.{Making, accepted}
use Rattle.mesh.specs.Calls.{unless, unless_refused}
use Rattle.mesh.specs.Numbering.{Numbering, grown, Reached, making, subdividing}
use Rattle.points.specs.Calculating.{Meaning, calculated}
use Rattle.points.specs.Promises.{Run}
use Rattle.points.specs.Runs.{State, pending, settled, Call, subdivide, calculate, reopen, ask, after_call, after, added, added_by}

made_reached : (P E : ℕ) (ts : List Triangle) (n : ℕ) (N : Numbering) → Making P E ts n (Ok tt) N → Reached P E ts N
made_reached P E ts n N (accepted h A l) = making n h

made_accepted : (P E : ℕ) (ts : List Triangle) (n : ℕ) (N : Numbering) → Making P E ts n (Ok tt) N → Accepted P E ts
made_accepted P E ts n N (accepted h A l) = A

made_count : (P E : ℕ) (ts : List Triangle) (n : ℕ) (N : Numbering) → Making P E ts n (Ok tt) N → N.n ≡ n
made_count P E ts n N (accepted h A l) = refl

pub reached_count : (P E : ℕ) (ts : List Triangle) (N : Numbering) → Reached P E ts N → N.n ≤ 12
reached_count P E ts N (making n h) = h
reached_count P E ts N (subdividing amount r h) = h

module _ {Point Frac : Type 0} (share : ℕ → ℕ → Frac) (blank : Point) (M : Meaning Point Frac) where
  pub record Kept (N : Numbering) (F : List Point) : Type 0 where
    pub reached : Reached (length M.points) M.edges M.triangles N
    pub before : List Point
    pub long : length before ≡ 3360
    pub is : F ≡ calculated share blank M N before

  abbrev Sound : State Point → Type 0
  Sound (pending N) = Reached (length M.points) M.edges M.triangles N
  Sound (settled N F) = Kept N F

  grown_sound :
      (N : Numbering) (amount : ℕ) → Reached (length M.points) M.edges M.triangles N → (b : Bool) → (T b → N.n + amount ≤ 12)
      → Reached (length M.points) M.edges M.triangles (unless_refused (unless b (SubdividedTooOften N.n amount)) (grown amount N) N)
  grown_sound N amount r true h = subdividing amount r (h tt)
  grown_sound N amount r false h = r

  call_sound : (c : Call Point) (s : State Point) → Sound s → Sound (after_call share blank M c s)
  call_sound (subdivide amount) (pending N) h = grown_sound N amount h (leb (N.n + amount) 12) (leb→le (N.n + amount) 12)
  call_sound (subdivide amount) (settled N F) h = h
  call_sound (calculate f) (pending N) h = record { reached = h; before = f.places; long = f.long; is = refl }
  call_sound (calculate f) (settled N F) h = h
  call_sound reopen (pending N) h = h
  call_sound reopen (settled N F) h = h.reached
  call_sound (ask a) s h = h

  after_sound : (cs : List (Call Point)) (s : State Point) → Sound s → Sound (after share blank M cs s)
  after_sound [] s h = h
  after_sound (c ∷ cs) s h = after_sound cs (after_call share blank M c s) (call_sound c s h)

  pub kept : (N : Numbering) (F : List Point) → Run share blank M N F → Kept N F
  kept N F r =
      subst Sound r.leads
      (after_sound r.calls (pending r.first) (made_reached (length M.points) M.edges M.triangles r.n r.first r.making))

  -- ---- the count
  abbrev count_of : State Point → ℕ
  count_of (pending N) = N.n
  count_of (settled N F) = N.n

  grown_count :
      (N : Numbering) (amount : ℕ) (b : Bool)
      → (unless_refused (unless b (SubdividedTooOften N.n amount)) (grown amount N) N).n
      ≡ N.n + unless_refused (unless b (SubdividedTooOften N.n amount)) amount 0
  grown_count N amount true = refl
  grown_count N amount false = omega arith

  call_count : (c : Call Point) (s : State Point) → count_of (after_call share blank M c s) ≡ count_of s + added share blank M c s
  call_count (subdivide amount) (pending N) = grown_count N amount (leb (N.n + amount) 12)
  call_count (subdivide amount) (settled N F) = omega arith
  call_count (calculate f) (pending N) = omega arith
  call_count (calculate f) (settled N F) = omega arith
  call_count reopen (pending N) = omega arith
  call_count reopen (settled N F) = omega arith
  call_count (ask a) s = omega arith

  after_count : (cs : List (Call Point)) (s : State Point) → count_of (after share blank M cs s) ≡ count_of s + added_by share blank M cs s
  after_count [] s = omega arith
  after_count (c ∷ cs) s =
      let e = after_count cs (after_call share blank M c s) in
      let d = call_count c s in
      omega arith

  pub counted :
      (N : Numbering) (F : List Point) (r : Run share blank M N F) → N.n ≡ r.n + added_by share blank M r.calls (pending r.first)
  counted N F r =
      sym (ap count_of r.leads) ∙ after_count r.calls (pending r.first)
      ∙ ap (λ k. k + added_by share blank M r.calls (pending r.first)) (made_count (length M.points) M.edges M.triangles r.n r.first r.making)

  pub accepted_base : (N : Numbering) (F : List Point) → Run share blank M N F → Accepted (length M.points) M.edges M.triangles
  accepted_base N F r = made_accepted (length M.points) M.edges M.triangles r.n r.first r.making

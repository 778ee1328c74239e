-- From one triangle to all.
use mathlib.Core.Path.{◌≡◌, refl, sym, ◌∙◌, ap, ap₂, subst}
use mathlib.Core.List.{List, [], ◌∷◌, ◌++◌, map, map-append}
use Prim.Native.Nat.{ℕ, zero, suc, ◌+◌, ◌-◌, ◌≤◌, ◌<◌}
use native.Mathlib.Decide.{dec_le}
use native.Mathlib.Omega.{arith}
use lib.Dec.{T, eqb}
use Rattle.pattern.proofs.Meeting.{Apart, Shared, Meet, MeetAll, Numbered, total, MeshSound}
use Rattle.pattern.specs.Sides.{Side, count, joins, among, back, map_side, path_sides}
use Rattle.pattern.specs.Spot.{Spot, eq_spot, spot_sides, border_sides, shown_sides, closing_sides, closed_side, is_spot, border_at, ends}
use Rattle.pattern.proofs.Natural.{back-map}
use Rattle.pattern.proofs.Count.{hit, count_weigh, weigh, weigh-++, Alike, two_ways, count_alike, both_left, both_right, count-++, count_back}
use Rattle.pattern.proofs.Sort.{at}
use Rattle.pattern.proofs.Spots.{spots_sound, s_spots, no_loop, parts_weigh, paired_alike, shows_alike, next, on_side, only_next}
use Rattle.pattern.proofs.Transport.{weigh_map, alike_map, count_map, From, from}

module _ (n : ℕ) (h : n ≤ 12) where
  -- the ends of a side are spots
  start : (p q : Spot) → 1 ≤ count eq_spot p q (spot_sides n) → T (is_spot n p)
  start p q c = both_left (is_spot n p) (is_spot n q) (at (ends n) (spot_sides n) (s_spots n h) p q c)

  end : (p q : Spot) → 1 ≤ count eq_spot p q (spot_sides n) → T (is_spot n q)
  end p q c = both_right (is_spot n p) (is_spot n q) (at (ends n) (spot_sides n) (s_spots n h) p q c)

  -- a side on side k of the closed border is one of the whole border
  in_border : (k : ℕ) → k < 3 → (p q : Spot) → 1 ≤ count eq_spot p q (path_sides (closed_side n k)) → 1 ≤ count eq_spot p q (border_sides n)
  in_border zero lt p q c =
      omega (arith, count-++ eq_spot p q (path_sides (closed_side n 0)) (path_sides (closed_side n 1) ++ path_sides (closed_side n 2)))
  in_border (suc zero) lt p q c =
      omega (
        arith,
        count-++ eq_spot p q (path_sides (closed_side n 0)) (path_sides (closed_side n 1) ++ path_sides (closed_side n 2)),
        count-++ eq_spot p q (path_sides (closed_side n 1)) (path_sides (closed_side n 2)),
      )
  in_border (suc (suc zero)) lt p q c =
      omega (
        arith,
        count-++ eq_spot p q (path_sides (closed_side n 0)) (path_sides (closed_side n 1) ++ path_sides (closed_side n 2)),
        count-++ eq_spot p q (path_sides (closed_side n 1)) (path_sides (closed_side n 2)),
      )
  in_border (suc (suc (suc k))) lt p q c = absurd (let z : ⊥ = omega arith in z)

  module _ (f : Spot → ℕ) (inj : Apart n f) where
    vertex_once_from : (P Q : ℕ) → From f P Q (spot_sides n) → count eqb P Q (map (map_side f) (spot_sides n)) ≤ 1
    vertex_once_from P Q o =
        let e : count eqb (f o.p) (f o.q) (map (map_side f) (spot_sides n)) ≡ count eq_spot o.p o.q (spot_sides n)
        = count_map n f inj o.p o.q (start o.p o.q o.occurs) (end o.p o.q o.occurs) (spot_sides n) (s_spots n h) in
        let u : count eq_spot o.p o.q (spot_sides n) ≤ 1 = (spots_sound n h o.p o.q).0.once in
        let v : count eqb (f o.p) (f o.q) (map (map_side f) (spot_sides n)) ≤ 1 = omega arith in
        let w : count eqb P (f o.q) (map (map_side f) (spot_sides n)) ≤ 1
        = subst (λ (x : ℕ). count eqb x (f o.q) (map (map_side f) (spot_sides n)) ≤ 1) (sym o.is_P) v in
        subst (λ (x : ℕ). count eqb P x (map (map_side f) (spot_sides n)) ≤ 1) (sym o.is_Q) w

    vertex_once : (P Q : ℕ) → count eqb P Q (map (map_side f) (spot_sides n)) ≤ 1
    vertex_once P Q = go (dec_le 1 (count eqb P Q (map (map_side f) (spot_sides n))))
      where
        go : Dec (1 ≤ count eqb P Q (map (map_side f) (spot_sides n))) → count eqb P Q (map (map_side f) (spot_sides n)) ≤ 1
        go (yes c) = vertex_once_from P Q (from f P Q (spot_sides n) c)
        go (no c) = omega arith

  -- what two triangles share, they run along in opposite directions
  module _ (p q p' q' : Spot) (s : Shared n p q p' q') where
    p_on : T (among eq_spot p (closed_side n s.k))
    p_on = subst (λ (z : Spot). T (among eq_spot z (closed_side n s.k))) (sym s.is_p) (on_side n h s.k s.k<3 s.x s.x_in)

    q_on : T (among eq_spot q (closed_side n s.k))
    q_on = subst (λ (z : Spot). T (among eq_spot z (closed_side n s.k))) (sym s.is_q) (on_side n h s.k s.k<3 s.y s.y_in)

    against : 1 ≤ count eq_spot p q (path_sides (closed_side n s.k)) → 1 ≤ count eq_spot q' p' (path_sides (closed_side n s.k'))
    against c =
        let l = path_sides (closed_side n s.k) in
        let m = path_sides (closed_side n s.k') in
        let c₁ = subst (λ (z : Spot). 1 ≤ count eq_spot z q l) s.is_p c in
        let c₂ = subst (λ (z : Spot). 1 ≤ count eq_spot (border_at n s.k s.x) z l) s.is_q c₁ in
        let e : s.y ≡ suc s.x = only_next n h s.k s.k<3 s.x s.y s.x_in s.y_in c₂ in
        let yi = s.y_in in
        let le : suc n - s.y ≤ n = omega arith in
        let d : 1 ≤ count eq_spot (border_at n s.k' (suc n - s.y)) (border_at n s.k' (suc (suc n - s.y))) m
        = next n h s.k' s.k'<3 (suc n - s.y) le in
        let f : suc (suc n - s.y) ≡ suc n - s.x = omega arith in
        let d₁ = subst (λ (z : ℕ). 1 ≤ count eq_spot (border_at n s.k' (suc n - s.y)) (border_at n s.k' z) m) f d in
        let d₂ = subst (λ (z : Spot). 1 ≤ count eq_spot (border_at n s.k' (suc n - s.y)) z m) (sym s.is_p') d₁ in
        subst (λ (z : Spot). 1 ≤ count eq_spot z p' m) (sym s.is_q') d₂

  -- two triangles never have one directed side in common
  clash : (f g : Spot → ℕ) → Meet n f g → (P Q : ℕ) → From f P Q (spot_sides n) → From g P Q (spot_sides n) → ⊥
  clash f g meet P Q o u =
      let p = o.p in
      let q = o.q in
      let p' = u.p in
      let q' = u.q in
      let ne : p ≡ q → ⊥ = λ e. let z : count eq_spot p p (spot_sides n) ≡ 0 = no_loop n h p in
      let y : 1 ≤ count eq_spot p p (spot_sides n) = subst (λ (x : Spot). 1 ≤ count eq_spot p x (spot_sides n)) (sym e) o.occurs in
      omega arith in
      let s : Shared n p q p' q'
      = meet p q p' q' (start p q o.occurs) (end p q o.occurs) (start p' q' u.occurs) (end p' q' u.occurs)
      (sym o.is_P ∙ u.is_P) (sym o.is_Q ∙ u.is_Q) ne in
      let j : 1 ≤ joins eq_spot p q (path_sides (closed_side n s.k)) = (spots_sound n h p q).0.border s.k s.k<3 (p_on p q p' q' s) (q_on p q p' q' s) o.occurs in
      let oc = o.occurs in
      let uc = u.occurs in
      let wrong : 1 ≤ count eq_spot q p (path_sides (closed_side n s.k)) → ⊥
      = λ c. let x = (spots_sound n h q p).0.outer (in_border s.k s.k<3 q p c) in
      let y = x.1 in omega arith in
      let c : 1 ≤ count eq_spot p q (path_sides (closed_side n s.k)) = go (dec_le 1 (count eq_spot q p (path_sides (closed_side n s.k)))) wrong j in
      let d : 1 ≤ count eq_spot q' p' (border_sides n) = in_border s.k' s.k'<3 q' p' (against p q p' q' s c) in
      let x = (spots_sound n h q' p').0.outer d in
      let y = x.1 in
      omega arith
    where
      go : {a b : ℕ} → Dec (1 ≤ b) → (1 ≤ b → ⊥) → 1 ≤ a + b → 1 ≤ a
      go (yes c) wrong j = absurd (wrong c)
      go (no c) wrong j = omega arith

  clash_all :
      (f : Spot → ℕ) (gs : List (Spot → ℕ)) → MeetAll n f gs → (P Q : ℕ) → From f P Q (spot_sides n) → count eqb P Q (total (spot_sides n) gs) ≡ 0
  clash_all f [] m P Q o = refl
  clash_all f (g ∷ gs) m P Q o =
      let r : count eqb P Q (total (spot_sides n) gs) ≡ 0 = clash_all f gs m.1 P Q o in
      let a : count eqb P Q (map (map_side g) (spot_sides n)) ≡ 0 = go (dec_le 1 (count eqb P Q (map (map_side g) (spot_sides n)))) in
      omega (arith, count-++ eqb P Q (map (map_side g) (spot_sides n)) (total (spot_sides n) gs))
    where
      go : Dec (1 ≤ count eqb P Q (map (map_side g) (spot_sides n))) → count eqb P Q (map (map_side g) (spot_sides n)) ≡ 0
      go (yes c) = absurd (clash f g m.0 P Q o (from g P Q (spot_sides n) c))
      go (no c) = omega arith

  mesh_once : (fs : List (Spot → ℕ)) → Numbered n fs → (P Q : ℕ) → count eqb P Q (total (spot_sides n) fs) ≤ 1
  mesh_once [] m P Q = omega arith
  mesh_once (f ∷ fs) m P Q =
      let r : count eqb P Q (total (spot_sides n) fs) ≤ 1 = mesh_once fs m.2 P Q in
      let a : count eqb P Q (map (map_side f) (spot_sides n)) ≤ 1 = vertex_once f m.0 P Q in
      let b : count eqb P Q (map (map_side f) (spot_sides n)) + count eqb P Q (total (spot_sides n) fs) ≤ 1
      = go r a (dec_le 1 (count eqb P Q (map (map_side f) (spot_sides n)))) in
      omega (arith, count-++ eqb P Q (map (map_side f) (spot_sides n)) (total (spot_sides n) fs))
    where
      go :
          count eqb P Q (total (spot_sides n) fs) ≤ 1 → count eqb P Q (map (map_side f) (spot_sides n)) ≤ 1
          → Dec (1 ≤ count eqb P Q (map (map_side f) (spot_sides n)))
          → count eqb P Q (map (map_side f) (spot_sides n)) + count eqb P Q (total (spot_sides n) fs) ≤ 1
      go r a (yes c) = let z : count eqb P Q (total (spot_sides n) fs) ≡ 0 = clash_all f fs m.1 P Q (from f P Q (spot_sides n) c) in omega arith
      go r a (no c) = omega arith

-- ---- equations of one triangle's lists, up to order, hold of all the triangles' lists
total_alike : (l m : List (Side Spot)) → Alike l m → (fs : List (Spot → ℕ)) → Alike (total l fs) (total m fs)
total_alike l m e [] w = refl
total_alike l m e (f ∷ fs) w =
    weigh-++ w (map (map_side f) l) (total l fs) ∙ ap₂ (λ x y. x + y) (alike_map (map_side f) l m e w) (total_alike l m e fs w)
    ∙ sym (weigh-++ w (map (map_side f) m) (total m fs))

total_part :
    (l m : List (Side Spot)) → ((w : Side Spot → ℕ) → weigh w l ≤ weigh w m) → (fs : List (Spot → ℕ)) (w : Side ℕ → ℕ)
    → weigh w (total l fs) ≤ weigh w (total m fs)
total_part l m e [] w = omega arith
total_part l m e (f ∷ fs) w =
    let r = total_part l m e fs w in
    let a = e (λ s. w (map_side f s)) in
    omega (
      arith,
      weigh-++ w (map (map_side f) l) (total l fs),
      weigh-++ w (map (map_side f) m) (total m fs),
      weigh_map (map_side f) w l,
      weigh_map (map_side f) w m,
    )

module _ (P Q : ℕ) where
  total-++ : (l m : List (Side Spot)) (fs : List (Spot → ℕ)) → count eqb P Q (total (l ++ m) fs) ≡ count eqb P Q (total l fs) + count eqb P Q (total m fs)
  total-++ l m [] = refl
  total-++ l m (f ∷ fs) =
      let r = total-++ l m fs in
      let e : count eqb P Q (map (map_side f) (l ++ m)) ≡ count eqb P Q (map (map_side f) l) + count eqb P Q (map (map_side f) m)
      = ap (count eqb P Q) (map-append (map_side f) l m) ∙ count-++ eqb P Q (map (map_side f) l) (map (map_side f) m) in
      omega (
        arith,
        count-++ eqb P Q (map (map_side f) (l ++ m)) (total (l ++ m) fs),
        count-++ eqb P Q (map (map_side f) l) (total l fs),
        count-++ eqb P Q (map (map_side f) m) (total m fs),
      )

  total_back : (l : List (Side Spot)) (fs : List (Spot → ℕ)) → count eqb P Q (total (back l) fs) ≡ count eqb Q P (total l fs)
  total_back l [] = refl
  total_back l (f ∷ fs) =
      let r = total_back l fs in
      let e : count eqb P Q (map (map_side f) (back l)) ≡ count eqb Q P (map (map_side f) l)
      = ap (count eqb P Q) (sym (back-map f l)) ∙ count_back eqb P Q (map (map_side f) l) in
      omega (arith, count-++ eqb P Q (map (map_side f) (back l)) (total (back l) fs), count-++ eqb Q P (map (map_side f) l) (total l fs))

  total_two_ways : (l : List (Side Spot)) (fs : List (Spot → ℕ)) → count eqb P Q (total (two_ways l) fs) ≡ joins eqb P Q (total l fs)
  total_two_ways l fs = total-++ l (back l) fs ∙ ap (λ k. count eqb P Q (total l fs) + k) (total_back l fs)

pub mesh_sound : MeshSound
mesh_sound n h fs m P Q =
    let S = spot_sides n in
    let R = border_sides n in
    let V = shown_sides n in
    let C = closing_sides n in
    let e = count_alike eqb (total (S ++ back R) fs) (total (back S ++ R) fs) (total_alike (S ++ back R) (back S ++ R) (paired_alike n h) fs) P Q in
    let A = two_ways V ++ two_ways V ++ two_ways R in
    let B = two_ways S ++ two_ways C ++ two_ways C in
    let g = count_alike eqb (total A fs) (total B fs) (total_alike A B (shows_alike n h) fs) P Q in
    record {
      once = mesh_once n h fs m P Q;
      paired = omega (arith, total-++ P Q S (back R) fs, total-++ P Q (back S) R fs, total_back P Q R fs, total_back P Q S fs);
      parts =
          omega (
            arith,
            total_part (R ++ two_ways C) S (parts_weigh n h) fs (hit eqb P Q),
            count_weigh eqb P Q (total (R ++ two_ways C) fs),
            count_weigh eqb P Q (total S fs),
            total-++ P Q R (two_ways C) fs,
            total_two_ways P Q C fs,
          );
      shown =
          omega (
            arith,
            total-++ P Q (two_ways V ++ two_ways V) (two_ways R) fs,
            total-++ P Q (two_ways V) (two_ways V) fs,
            total-++ P Q (two_ways S ++ two_ways C) (two_ways C) fs,
            total-++ P Q (two_ways S) (two_ways C) fs,
            total_two_ways P Q V fs,
            total_two_ways P Q R fs,
            total_two_ways P Q S fs,
            total_two_ways P Q C fs,
          );
    }

-- The contents of a triangle: what they write, that each write reads what was written before, and the points they get.
use Rattle.std.proofs.Common.{◌≡◌, ℕ, zero, suc, ◌+◌, ◌-◌, ◌<◌, ◌≤◌, Bool, true, false, T, List, [], ◌∷◌, ◌++◌, map, get_or, sym, refl, ap, ◌∙◌, ap₂, append_assoc, arith}
use mathlib.Core.List.{map-append}
use Rattle.pattern.specs.Ring.{Contents, none, one, three, six, more, up, ring_list, contents_list}
use Rattle.pattern.specs.Sides.{occ, either, among}
use Rattle.pattern.specs.Spot.{Spot, spot, eq_spot, inside, all_spots}
use Rattle.pattern.specs.Vertex.{vertex_of}
use Rattle.pattern.proofs.Fresh.{ring_list-map, contents_list-map}
use Rattle.pattern.proofs.Link.{all}
use Rattle.pattern.proofs.Natural.{join}
use Rattle.pattern.proofs.Sort.{eq_spot→eq}
use Rattle.pattern.proofs.Sized.{Sized, sized_0, sized_1, sized_2, sized_3, sized_4, sized_more}
use Rattle.shape.specs.Lists.{Each}
use Rattle.pattern.proofs.Occurrences.{hits_yes, occ-cons, occ-++}
use Rattle.points.specs.Calculating.{Meaning, Write, middle, along, tip_writes, contents_writes}
use Rattle.points.specs.Places.{filled}
use Rattle.points.proofs.Writes.{run_of, in_run, all_places, Ready, Holds}

-- ---- what is written
module _ (Point : Type 0) where
  pub places_contents :
      (m : ℕ) (ab bc ca : ℕ → ℕ) (s : Contents ℕ) → all_places (contents_writes {Point = Point} m ab bc ca s) ≡ contents_list s
  places_contents m ab bc ca none = refl
  places_contents m ab bc ca (one x) = refl
  places_contents m ab bc ca (three a b c) = refl
  places_contents m ab bc ca (six a b c sab sbc sca) = refl
  places_contents m ab bc ca (more a b c L sab sbc sca s) =
      ap (λ l. a ∷ b ∷ c ∷ l)
      (ap (λ l. run_of sab 0 L ++ (run_of sbc 0 L ++ (run_of sca 0 L ++ l))) (places_contents L sab sbc sca s)
      ∙ sym (append_assoc (run_of sab 0 L) (run_of sbc 0 L ++ run_of sca 0 L) (contents_list s)
      ∙ ap (λ l. run_of sab 0 L ++ l) (append_assoc (run_of sbc 0 L) (run_of sca 0 L) (contents_list s))))

-- ---- each write reads what was written before
-- xs 0 to xs (m - 1) are seen
abbrev pub Known : List ℕ → (ℕ → ℕ) → ℕ → Type 0
Known seen xs m = (i : ℕ) → i < m → 1 ≤ occ (xs i) seen

pub seen_more : (x : ℕ) (l seen : List ℕ) → 1 ≤ occ x seen → 1 ≤ occ x (l ++ seen)
seen_more x l seen h = omega (arith, occ-++ x l seen)

pub seen_own : (x : ℕ) (l seen : List ℕ) → 1 ≤ occ x l → 1 ≤ occ x (l ++ seen)
seen_own x l seen h = omega (arith, occ-++ x l seen)

pub known_more : (xs : ℕ → ℕ) (m : ℕ) (l seen : List ℕ) → Known seen xs m → Known (l ++ seen) xs m
known_more xs m l seen h i lt = seen_more (xs i) l seen (h i lt)

pub known_run : (xs : ℕ → ℕ) (m : ℕ) (seen : List ℕ) → Known (run_of xs 0 m ++ seen) xs m
known_run xs m seen i lt = seen_own (xs i) (run_of xs 0 m) seen (in_run xs 0 m i (omega arith) (omega arith))

seen_head : (x : ℕ) (seen : List ℕ) → 1 ≤ occ x (x ∷ seen)
seen_head x seen = omega (arith, occ-cons x x seen, hits_yes x x refl)

module _ (Point : Type 0) where
  ready_tips :
      (seen : List ℕ) (m : ℕ) (ab bc ca : ℕ → ℕ) (a b c : ℕ) (ws : List (Write Point)) → 3 ≤ m → Known seen ab m → Known seen bc m → Known seen ca m
      → Ready (c ∷ b ∷ a ∷ seen) ws → Ready seen (tip_writes m ab bc ca a b c ++ ws)
  ready_tips seen m ab bc ca a b c ws l kab kbc kca r =
      let one : 1 < m = omega arith in
      let last : m - 2 < m = omega arith in (
        (kab 1 one, (kca (m - 2) last, tt)),
        (
          (seen_more (ab (m - 2)) (a ∷ []) seen (kab (m - 2) last), (seen_more (bc 1) (a ∷ []) seen (kbc 1 one), tt)),
          ((seen_more (bc (m - 2)) (b ∷ a ∷ []) seen (kbc (m - 2) last), (seen_more (ca 1) (b ∷ a ∷ []) seen (kca 1 one), tt)), r),
        ),
      )

  pub ready_contents :
      (seen : List ℕ) (m : ℕ) (ab bc ca : ℕ → ℕ) (s : Contents ℕ) → Sized m s → Known seen ab m → Known seen bc m → Known seen ca m
      → Ready {Point = Point} seen (contents_writes m ab bc ca s)
  ready_contents seen m ab bc ca s sized_0 kab kbc kca = tt
  ready_contents seen m ab bc ca s sized_1 kab kbc kca = tt
  ready_contents seen m ab bc ca s sized_2 kab kbc kca = ((kab 0 (omega arith), (kbc 1 (omega arith), tt)), tt)
  ready_contents seen m ab bc ca s (sized_3 {a = a} {b = b} {c = c}) kab kbc kca =
      let one : 1 < 3 = omega arith in (
        (kab 1 one, (kca 1 one, tt)),
        (
          (seen_more (bc 1) (a ∷ []) seen (kbc 1 one), (seen_more (ab 1) (a ∷ []) seen (kab 1 one), tt)),
          ((seen_more (ca 1) (b ∷ a ∷ []) seen (kca 1 one), (seen_more (bc 1) (b ∷ a ∷ []) seen (kbc 1 one), tt)), tt),
        ),
      )
  ready_contents seen m ab bc ca s (sized_4 {a = a} {b = b} {c = c} {ab = sab} {bc = sbc} {ca = sca}) kab kbc kca =
      ready_tips seen 4 ab bc ca a b c (middle sab a b ∷ middle sbc b c ∷ middle sca c a ∷ []) (omega arith) kab kbc kca (
        (seen_more a (c ∷ b ∷ []) (a ∷ seen) (seen_head a seen), (seen_more b (c ∷ []) (b ∷ a ∷ seen) (seen_head b (a ∷ seen)), tt)),
        (
          (seen_more b (sab ∷ c ∷ []) (b ∷ a ∷ seen) (seen_head b (a ∷ seen)), (seen_more c (sab ∷ []) (c ∷ b ∷ a ∷ seen) (seen_head c (b ∷ a ∷ seen)), tt)),
          (
            (seen_more c (sbc ∷ sab ∷ []) (c ∷ b ∷ a ∷ seen) (seen_head c (b ∷ a ∷ seen)), (seen_more a (sbc ∷ sab ∷ c ∷ b ∷ []) (a ∷ seen) (seen_head a seen), tt)),
            tt,
          ),
        ),
      )
  ready_contents seen m ab bc ca s (sized_more {k = k} {a = a} {b = b} {c = c} {ab = sab} {bc = sbc} {ca = sca} {t = t} z) kab kbc kca =
      let L : ℕ = suc (suc k) in
      let tips : List ℕ = c ∷ b ∷ a ∷ seen in
      let s1 : List ℕ = run_of sab 0 L ++ tips in
      let s2 : List ℕ = run_of sbc 0 L ++ s1 in
      let s3 : List ℕ = run_of sca 0 L ++ s2 in
      let ina : 1 ≤ occ a tips = seen_more a (c ∷ b ∷ []) (a ∷ seen) (seen_head a seen) in
      let inb : 1 ≤ occ b tips = seen_more b (c ∷ []) (b ∷ a ∷ seen) (seen_head b (a ∷ seen)) in
      let inc : 1 ≤ occ c tips = seen_head c (b ∷ a ∷ seen) in
      let up1 : (x : ℕ) → 1 ≤ occ x tips → 1 ≤ occ x s1 = λ x h. seen_more x (run_of sab 0 L) tips h in
      let up2 : (x : ℕ) → 1 ≤ occ x tips → 1 ≤ occ x s2 = λ x h. seen_more x (run_of sbc 0 L) s1 (up1 x h) in
      ready_tips seen (suc (suc (suc L))) ab bc ca a b c
      (along L sab a b ∷ along L sbc b c ∷ along L sca c a ∷ contents_writes L sab sbc sca t) (omega arith) kab kbc kca (
        (ina, (inb, tt)),
        (
          (up1 b inb, (up1 c inc, tt)),
          (
            (up2 c inc, (up2 a ina, tt)),
            ready_contents s3 L sab sbc sca t z
                (known_more sab L (run_of sca 0 L) s2 (known_more sab L (run_of sbc 0 L) s1 (known_run sab L tips)))
                (known_more sbc L (run_of sca 0 L) s2 (known_run sbc L s1))
                (known_run sca L s2),
          ),
        ),
      )

-- ---- the points
module _ {X : Type 0} (f : ℕ → X) where
  map_run : (xs : ℕ → ℕ) (g : ℕ → X) (i k : ℕ) → ((j : ℕ) → i ≤ j → j < i + k → f (xs j) ≡ g j) → map f (run_of xs i k) ≡ up i k (λ j. g j ∷ [])
  map_run xs g i zero e = refl
  map_run xs g i (suc k) e =
      ap₂ (λ x l. x ∷ l) (e i (omega arith) (omega arith)) (map_run xs g (suc i) k (λ j l m. e j (omega arith) (omega arith)))

  pub map_ring :
      (m a b c : ℕ) (ab bc ca : ℕ → ℕ) (A B C : X) (AB BC CA : ℕ → X) → f a ≡ A → f b ≡ B → f c ≡ C
      → ((i : ℕ) → i < m → f (ab i) ≡ AB i) → ((i : ℕ) → i < m → f (bc i) ≡ BC i) → ((i : ℕ) → i < m → f (ca i) ≡ CA i)
      → map f (ring_list m a b c ab bc ca) ≡ ring_list m A B C AB BC CA
  map_ring m a b c ab bc ca A B C AB BC CA ea eb ec eab ebc eca =
      let r : (xs : ℕ → ℕ) (g : ℕ → X) → ((i : ℕ) → i < m → f (xs i) ≡ g i) → map f (run_of xs 0 m) ≡ up 0 m (λ j. g j ∷ [])
      = λ xs g e. map_run xs g 0 m (λ j l h. e j (omega arith)) in
      ap₂ (λ x l. x ∷ l) ea (ap₂ (λ x l. x ∷ l) eb (ap₂ (λ x l. x ∷ l) ec
      (map-append f (run_of ab 0 m) (run_of bc 0 m ++ run_of ca 0 m)
      ∙ ap₂ (λ x y. x ++ y) (r ab AB eab) (map-append f (run_of bc 0 m) (run_of ca 0 m) ∙ ap₂ (λ x y. x ++ y) (r bc BC ebc) (r ca CA eca)))))

module _ {Point Frac : Type 0} (share : ℕ → ℕ → Frac) (blank : Point) (M : Meaning Point Frac) where
  pub filled_sized : (n : ℕ) (ab bc ca : ℕ → Point) → Sized n (filled share blank M n ab bc ca)
  filled_sized zero ab bc ca = sized_0
  filled_sized (suc zero) ab bc ca = sized_1
  filled_sized (suc (suc zero)) ab bc ca = sized_2
  filled_sized (suc (suc (suc zero))) ab bc ca = sized_3
  filled_sized (suc (suc (suc (suc zero)))) ab bc ca = sized_4
  filled_sized (suc (suc (suc (suc (suc k))))) ab bc ca = sized_more (filled_sized (suc (suc k)) _ _ _)

  module _ (F : List Point) where
    abbrev on : ℕ → Point
    on x = get_or F x blank

    pub filled_points :
        (m : ℕ) (ab bc ca : ℕ → ℕ) (AB BC CA : ℕ → Point) (s : Contents ℕ) → Sized m s → Each (Holds share blank M F) (contents_writes m ab bc ca s)
        → ((i : ℕ) → i < m → on (ab i) ≡ AB i) → ((i : ℕ) → i < m → on (bc i) ≡ BC i) → ((i : ℕ) → i < m → on (ca i) ≡ CA i)
        → map on (contents_list s) ≡ contents_list (filled share blank M m AB BC CA)
    filled_points m ab bc ca AB BC CA s sized_0 h eab ebc eca = refl
    filled_points m ab bc ca AB BC CA s sized_1 h eab ebc eca = refl
    filled_points m ab bc ca AB BC CA s sized_2 h eab ebc eca =
        ap (λ x. x ∷ []) (h.0 ∙ ap₂ M.half (eab 0 (omega arith)) (ebc 1 (omega arith)))
    filled_points m ab bc ca AB BC CA s sized_3 h eab ebc eca =
        let one : 1 < 3 = omega arith in
        ap₂ (λ x l. x ∷ l) (h.0 ∙ ap₂ M.half (eab 1 one) (eca 1 one))
        (ap₂ (λ x l. x ∷ l) (h.1.0 ∙ ap₂ M.half (ebc 1 one) (eab 1 one))
        (ap (λ x. x ∷ []) (h.1.1.0 ∙ ap₂ M.half (eca 1 one) (ebc 1 one))))
    filled_points m ab bc ca AB BC CA s sized_4 h eab ebc eca =
        let one : 1 < 4 = omega arith in
        let two : 2 < 4 = omega arith in
        let ea = h.0 ∙ ap₂ M.half (eab 1 one) (eca 2 two) in
        let eb = h.1.0 ∙ ap₂ M.half (eab 2 two) (ebc 1 one) in
        let ec = h.1.1.0 ∙ ap₂ M.half (ebc 2 two) (eca 1 one) in
        ap₂ (λ x l. x ∷ l) ea (ap₂ (λ x l. x ∷ l) eb (ap₂ (λ x l. x ∷ l) ec
        (ap₂ (λ x l. x ∷ l) (h.1.1.1.0 ∙ ap₂ M.half ea eb)
        (ap₂ (λ x l. x ∷ l) (h.1.1.1.1.0 ∙ ap₂ M.half eb ec)
        (ap (λ x. x ∷ []) (h.1.1.1.1.1.0 ∙ ap₂ M.half ec ea))))))
    filled_points m ab bc ca AB BC CA s (sized_more {k = k} {a = a} {b = b} {c = c} {ab = sab} {bc = sbc} {ca = sca} {t = t} z) h eab ebc eca =
        let L : ℕ = suc (suc k) in
        let one : 1 < suc (suc (suc L)) = omega arith in
        let lt : suc L < suc (suc (suc L)) = omega arith in
        let last : suc (suc (suc L)) - 2 ≡ suc L = omega arith in
        let A : Point = M.half (AB 1) (CA (suc L)) in
        let B : Point = M.half (AB (suc L)) (BC 1) in
        let C : Point = M.half (BC (suc L)) (CA 1) in
        let side : Point → Point → ℕ → Point = λ p q i. M.between p q (share i L) in
        let ea : on a ≡ A = h.0 ∙ ap₂ M.half (eab 1 one) (ap (λ j. on (ca j)) last ∙ eca (suc L) lt) in
        let eb : on b ≡ B = h.1.0 ∙ ap₂ M.half (ap (λ j. on (ab j)) last ∙ eab (suc L) lt) (ebc 1 one) in
        let ec : on c ≡ C = h.1.1.0 ∙ ap₂ M.half (ap (λ j. on (bc j)) last ∙ ebc (suc L) lt) (eca 1 one) in
        let fab : (i : ℕ) → i < L → on (sab i) ≡ side A B i = λ i l. h.1.1.1.0 i l ∙ ap₂ (λ p q. M.between p q (share i L)) ea eb in
        let fbc : (i : ℕ) → i < L → on (sbc i) ≡ side B C i = λ i l. h.1.1.1.1.0 i l ∙ ap₂ (λ p q. M.between p q (share i L)) eb ec in
        let fca : (i : ℕ) → i < L → on (sca i) ≡ side C A i = λ i l. h.1.1.1.1.1.0 i l ∙ ap₂ (λ p q. M.between p q (share i L)) ec ea in
        map-append on (ring_list L a b c sab sbc sca) (contents_list t)
        ∙ ap₂ (λ x y. x ++ y)
        (map_ring on L a b c sab sbc sca A B C (side A B) (side B C) (side C A) ea eb ec fab fbc fca)
        (filled_points L sab sbc sca (side A B) (side B C) (side C A) t z h.1.1.1.1.1.1 fab fbc fca)

-- ---- spot by spot
module _ {X : Type 0} where
  pub all_names :
      (n : ℕ) (a b c : X) (ab bc ca : ℕ → X) (t : Contents X) → Sized n t
      → map (vertex_of a b c ab bc ca t) (all_spots n) ≡ ring_list n a b c ab bc ca ++ contents_list t
  all_names n a b c ab bc ca t z =
      let f : Spot → X = vertex_of a b c ab bc ca t in
      sym (join f
      (ring_list n (spot 0 0 0) (spot 0 1 0) (spot 0 2 0) (λ i. spot 0 0 (suc i)) (λ i. spot 0 1 (suc i)) (λ i. spot 0 2 (suc i)))
      (contents_list (inside 1 n))
      (ring_list n a b c ab bc ca) (contents_list t)
      (ring_list-map f n (spot 0 0 0) (spot 0 1 0) (spot 0 2 0) (λ i. spot 0 0 (suc i)) (λ i. spot 0 1 (suc i)) (λ i. spot 0 2 (suc i)))
      (ap contents_list (sym (all n a b c ab bc ca t z)) ∙ contents_list-map f (inside 1 n)))

  tail : List X → List X
  tail [] = []
  tail (x ∷ l) = l

  pub same_at : (f g : Spot → X) (l : List Spot) → map f l ≡ map g l → (p : Spot) → T (among eq_spot p l) → f p ≡ g p
  unfolding tail
  same_at f g [] e p i = absurd i
  same_at f g (s ∷ l) e p i = go (eq_spot p s) (eq_spot→eq p s) (same_at f g l (ap tail e) p) i
    where
      go : (b : Bool) → (T b → p ≡ s) → (T (among eq_spot p l) → f p ≡ g p) → T (either b (among eq_spot p l)) → f p ≡ g p
      go true d r j = ap f (d tt) ∙ ap (λ (m : List X). get_or m 0 (f s)) e ∙ ap g (sym (d tt))
      go false d r j = r j

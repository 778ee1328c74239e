-- Readings triangle after triangle.
use Rattle.std.proofs.Common.{◌≡◌, ℕ, List, [], ◌∷◌, ◌++◌, refl, ap}
use Rattle.shape.specs.declared.triangle.Triangle.{Triangle}
use Rattle.table.specs.Forwards.{forward_of, forwards_from}

-- the edges that triangles use, the latest first
abbrev pub seen_from : List ℕ → List Triangle → List ℕ
seen_from seen [] = seen
seen_from seen (t ∷ ts) = seen_from (t.ca ∷ t.bc ∷ t.ab ∷ seen) ts

abbrev pub seen_by : List Triangle → List ℕ
seen_by ts = seen_from [] ts

pub seen_more : (seen : List ℕ) (ts : List Triangle) (t : Triangle) → seen_from seen (ts ++ (t ∷ [])) ≡ t.ca ∷ t.bc ∷ t.ab ∷ seen_from seen ts
seen_more seen [] t = refl
seen_more seen (s ∷ ts) t = seen_more (s.ca ∷ s.bc ∷ s.ab ∷ seen) ts t

pub forwards_more : (seen : List ℕ) (ts : List Triangle) (t : Triangle) → forwards_from seen (ts ++ (t ∷ [])) ≡ forwards_from seen ts ++ (forward_of (seen_from seen ts) t ∷ [])
forwards_more seen [] t = refl
forwards_more seen (s ∷ ts) t = ap (λ l. forward_of seen s ∷ l) (forwards_more (s.ca ∷ s.bc ∷ s.ab ∷ seen) ts t)

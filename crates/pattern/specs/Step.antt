-- The contents of a triangle as they grow, with the vertex numbers that each step takes.
use Rattle.std.specs.Prelude.{◌≡◌, List, [], ◌∷◌, ◌++◌, ℕ, zero, suc, ◌+◌, length, get_or}
use Rattle.pattern.specs.Ring.{Contents, none, one, three, six, more}

-- The contents as they are numbered. More keeps its three sides in one list: side ab the first L, bc the next L, ca the last L.
pub data NumberedContents : Type 0 where
  None : NumberedContents
  One : (x : ℕ) → NumberedContents
  Three : (a b c : ℕ) → NumberedContents
  Six : (a b c ab bc ca : ℕ) → NumberedContents
  More : (a b c L : ℕ) (sides : List ℕ) → NumberedContents → NumberedContents

-- the same, read by position
abbrev pub view : NumberedContents → Contents ℕ
view None = none
view (One x) = one x
view (Three a b c) = three a b c
view (Six a b c ab bc ca) = six a b c ab bc ca
view (More a b c L sides t) =
    more a b c L (λ i. get_or sides i 0) (λ i. get_or sides (L + i) 0) (λ i. get_or sides (L + L + i) 0) (view t)

-- how many vertices a step takes
abbrev pub taken : NumberedContents → ℕ
taken None = 1
taken (One x) = 2
taken (Three a b c) = 3
taken (Six a b c ab bc ca) = 4
taken (More a b c L sides t) = suc (suc (suc (taken t)))

-- one step, where the next free vertex is h
abbrev pub step : ℕ → NumberedContents → NumberedContents
step h None = One h
step h (One x) = Three x h (suc h)
step h (Three a b c) = Six a b c h (suc h) (suc (suc h))
step h (Six a b c ab bc ca) =
    More a b c 2 (ab ∷ bc ∷ ca ∷ h ∷ suc h ∷ suc (suc h) ∷ []) (One (suc (suc (suc h))))
step h (More a b c L sides t) =
    More a b c (suc L) (sides ++ (h ∷ suc h ∷ suc (suc h) ∷ [])) (step (suc (suc (suc h))) t)

-- every vertex of the contents
abbrev pub vertices : NumberedContents → List ℕ
vertices None = []
vertices (One x) = x ∷ []
vertices (Three a b c) = a ∷ b ∷ c ∷ []
vertices (Six a b c ab bc ca) = a ∷ b ∷ c ∷ ab ∷ bc ∷ ca ∷ []
vertices (More a b c L sides t) = a ∷ b ∷ c ∷ (sides ++ vertices t)

-- k vertices from h on
abbrev pub range : ℕ → ℕ → List ℕ
range h zero = []
range h (suc k) = h ∷ range (suc h) k

-- the contents of count n, with sides as long as they should be
pub data OfCount : ℕ → NumberedContents → Type 0 where
  of_0 : OfCount 0 None
  of_1 : OfCount 1 None
  of_2 : {x : ℕ} → OfCount 2 (One x)
  of_3 : {a b c : ℕ} → OfCount 3 (Three a b c)
  of_4 : {a b c ab bc ca : ℕ} → OfCount 4 (Six a b c ab bc ca)
  of_more :
      {k a b c : ℕ} {sides : List ℕ} {t : NumberedContents} → length sides ≡ suc (suc k) + suc (suc k) + suc (suc k) → OfCount (suc (suc k)) t
      → OfCount (suc (suc (suc (suc (suc k))))) (More a b c (suc (suc k)) sides t)

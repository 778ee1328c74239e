-- The vertex numbers of a mesh, as making and subdividing give them.
use Rattle.std.specs.Prelude.{◌≡◌, ℕ, zero, suc, ◌+◌, ◌-◌, ◌*◌, ◌/◌, ◌<◌, ◌≤◌, cond, List, [], ◌∷◌, ◌++◌, length, replicate, ◌==◌, slice_index_or}
use Rattle.pattern.specs.Step.{NumberedContents, None, step, taken, vertices, range}
use Rattle.pattern.specs.Sides.{occ}
use Rattle.shape.specs.Questions.{Accepted}
use Rattle.shape.specs.declared.triangle.Triangle.{Triangle}

-- the count of subdivisions, how many vertices there are, each edge's vertices, each triangle's contents
pub record Numbering : Type 0 where
  pub n : ℕ
  pub total : ℕ
  pub edges : List (List ℕ)
  pub contents : List NumberedContents

-- each edge in turn takes the amount, where the next free vertex is h
abbrev pub lengthened : ℕ → ℕ → List (List ℕ) → List (List ℕ)
lengthened h amount [] = []
lengthened h amount (l ∷ ls) = (l ++ range h amount) ∷ lengthened (h + amount) amount ls

-- k steps of one triangle's contents, and the next free vertex after them
abbrev pub stepped : ℕ → ℕ → NumberedContents → NumberedContents
stepped h zero g = g
stepped h (suc k) g = stepped (h + taken g) k (step h g)

abbrev pub after : ℕ → ℕ → NumberedContents → ℕ
after h zero g = h
after h (suc k) g = after (h + taken g) k (step h g)

-- k steps of each triangle's contents in turn, and the next free vertex after them
abbrev pub all_stepped : ℕ → ℕ → List NumberedContents → List NumberedContents
all_stepped h k [] = []
all_stepped h k (g ∷ gs) = stepped h k g ∷ all_stepped (after h k g) k gs

abbrev pub after_all : ℕ → ℕ → List NumberedContents → ℕ
after_all h k [] = h
after_all h k (g ∷ gs) = after_all (after h k g) k gs

-- as many steps as the amount, once less if the count was 0 and the amount is not
abbrev pub steps_for : ℕ → ℕ → ℕ
steps_for n amount = cond (n == 0) (amount - 1) amount

-- subdivided by the amount: each edge in turn takes it, then each triangle's contents step
abbrev pub grown : ℕ → Numbering → Numbering
grown amount N =
    let h : ℕ = N.total + amount * length N.edges in
    record {
      n = N.n + amount;
      total = after_all h (steps_for N.n amount) N.contents;
      edges = lengthened N.total amount N.edges;
      contents = all_stepped h (steps_for N.n amount) N.contents;
    }

-- made at n: n vertices for each edge in turn, then n - 1 steps of each triangle's contents, none for n = 0
abbrev pub made : ℕ → ℕ → ℕ → ℕ → Numbering
made P E T n =
    let h : ℕ = P + n * E in
    record {
      n = n;
      total = after_all h (n - 1) (replicate T None);
      edges = lengthened P n (replicate E []);
      contents = all_stepped h (n - 1) (replicate T None);
    }

-- the mesh of a refused making: no points, edges or triangles
abbrev pub blank : Numbering
blank = record { n = 0; total = 0; edges = []; contents = [] }

-- Reached are the numberings that accepted makings give, and accepted subdivisions make of them.
pub data Reached (P E : ℕ) (ts : List Triangle) : Numbering → Type 0 where
  making : (n : ℕ) → n ≤ 12 → Reached P E ts (made P E (length ts) n)
  subdividing : {N : Numbering} (amount : ℕ) → Reached P E ts N → N.n + amount ≤ 12 → Reached P E ts (grown amount N)

-- all numbers given: the points', each edge's, each triangle's
abbrev pub flat : List (List ℕ) → List ℕ
flat [] = []
flat (l ∷ ls) = l ++ flat ls

abbrev pub inners : List NumberedContents → List ℕ
inners [] = []
inners (g ∷ gs) = vertices g ++ inners gs

abbrev pub given : ℕ → Numbering → List ℕ
given P N = range 0 P ++ (flat N.edges ++ inners N.contents)

-- the vertices of edge e
abbrev pub edge_of : Numbering → ℕ → List ℕ
edge_of N e = slice_index_or N.edges e []

pub record Counted (P E : ℕ) (ts : List Triangle) (N : Numbering) : Type 0 where
  pub total_is : N.total ≡ P + N.n * E + length ts * (N.n * (N.n - 1) / 2)
  pub fits : N.total ≤ 3360
  -- every number below the total is given once, and no other
  pub once : (x : ℕ) → x < N.total → occ x (given P N) ≡ 1
  pub no_other : (x : ℕ) → N.total ≤ x → occ x (given P N) ≡ 0

abbrev pub VerticesOnce : Type 0
VerticesOnce = (P E : ℕ) (ts : List Triangle) → Accepted P E ts → (N : Numbering) → Reached P E ts N → Counted P E ts N

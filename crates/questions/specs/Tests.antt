-- The questions as tests that compute.
use Rattle.std.specs.Prelude.{ℕ, Bool, true, false, not, ◌&&◌, ◌||◌, List, [], ◌∷◌, take, Option, ◌==◌, nat_lt}
use Rattle.std.specs.List.{list_all, list_any, find, range_with_len, enumerate_from, position}
use Rattle.shape.specs.declared.triangle.Triangle.{Triangle}
use Rattle.shape.specs.Sides.{Use, walk, uses}
use Rattle.questions.specs.declared.side.Side.{Side}
use Rattle.questions.specs.declared.used.Part.{Part}
use Rattle.questions.specs.declared.used.Part.TheVariants.{Edge, Point}
use Rattle.questions.specs.declared.question.Question.{Question}
use Rattle.questions.specs.declared.question.Question.TheVariants.{InRange, DifferentCorners, EdgesMatch, OneWayEach, DifferentSets}

abbrev pub use_of : Side → Use
use_of s = walk s.edge s.start s.stop

abbrev pub same_bool : Bool → Bool → Bool
same_bool true b = b
same_bool false b = not b

abbrev pub same_ends : Use → Use → Bool
same_ends u v = (u.start == v.start && u.stop == v.stop) || (u.start == v.stop && u.stop == v.start)

-- one edge number exactly if one pair of corners
abbrev pub matches : Use → Use → Bool
matches u v = same_bool (u.edge == v.edge) (same_ends u v)

abbrev pub same_way : Use → Use → Bool
same_way u v = u.edge == v.edge && (u.start == v.start && u.stop == v.stop)

abbrev pub below : ℕ → ℕ → Triangle → Bool
below P E t =
    nat_lt t.a P && (nat_lt t.b P && (nat_lt t.c P && (nat_lt t.ab E && (nat_lt t.bc E && nat_lt t.ca E))))

abbrev pub three : Triangle → Bool
three t = not (t.a == t.b) && (not (t.b == t.c) && not (t.c == t.a))

abbrev pub has_corner : Triangle → ℕ → Bool
has_corner t x = x == t.a || (x == t.b || x == t.c)

-- each corner of s is one of t
abbrev pub covered : Triangle → Triangle → Bool
covered s t = has_corner t s.a && (has_corner t s.b && has_corner t s.c)

abbrev pub same_corners : Triangle → Triangle → Bool
same_corners s t = covered s t && covered t s

-- what a question asks of two sides
abbrev pub agree : Question → Use → Use → Bool
agree (InRange P E) u v = true
agree DifferentCorners u v = true
agree EdgesMatch u v = matches u v
agree OneWayEach u v = not (same_way u v)
agree DifferentSets u v = true

-- what it asks of each two sides of two triangles
abbrev pub sides_agree : Question → Triangle → Triangle → Bool
sides_agree q s t = list_all (λ u. list_all (agree q u) (uses (t ∷ []))) (uses (s ∷ []))

-- what it asks of a triangle alone
abbrev pub alone : Question → Triangle → Bool
alone (InRange P E) t = below P E t
alone DifferentCorners t = three t
alone EdgesMatch t = sides_agree EdgesMatch t t
alone OneWayEach t = true
alone DifferentSets t = true

-- what it asks of an earlier triangle and a later one
abbrev pub pair : Question → Triangle → Triangle → Bool
pair (InRange P E) s t = true
pair DifferentCorners s t = true
pair EdgesMatch s t = sides_agree EdgesMatch s t
pair OneWayEach s t = sides_agree OneWayEach s t
pair DifferentSets s t = not (same_corners s t)

-- whether the answer stays yes when t follows the triangles ts
abbrev pub passes : Question → List Triangle → Triangle → Bool
passes q ts t = alone q t && list_all (λ s. pair q s t) ts

-- the first triangle at which the answer is no, where those before it are the earlier ones
abbrev pub first_no : Question → List Triangle → Option ℕ
first_no q ts = position (λ p. not (passes q (take p.0 ts) p.1)) (enumerate_from 0 ts)

-- whether t has edge number i, or point i as a corner
abbrev pub touches : Part → ℕ → Triangle → Bool
touches Edge i t = i == t.ab || (i == t.bc || i == t.ca)
touches Point i t = i == t.a || (i == t.b || i == t.c)

abbrev pub is_used : Part → List Triangle → ℕ → Bool
is_used part ts i = list_any (touches part i) ts

-- the first number below the count at which the test fails
abbrev pub first_lack : (ℕ → Bool) → ℕ → Option ℕ
first_lack f count = find (λ i. not (f i)) (range_with_len 0 count)

-- Bases and numberings worked out by hand.
use Rattle.std.specs.Prelude.{◌≡◌, ℕ, ◌≤◌, Bool, true, false, T, List, [], ◌∷◌, ◌++◌, take, Some, None, Ok, Err, Result, nat_eq, nat_le}
use Rattle.std.proofs.Common.{arith, leb→le, le→leb}
use Rattle.pattern.specs.Sides.{joins, shown_by}
use Rattle.pattern.specs.Ring.{positions, pos_ab, pos_bc, pos_ca}
use Rattle.pattern.specs.Step.{NumberedContents, One, More, view}
use Rattle.refusal.specs.declared.Refusal.{Refusal}
use Rattle.refusal.specs.declared.Refusal.TheVariants.{TooManySubdivisions, RepeatedTriangle, SubdividedTooOften, NoTriangle, BufferTooShort, NumberTooLarge, SinkFull, DataTooShort}
use Rattle.shape.specs.declared.triangle.Triangle.{Triangle}
use Rattle.shape.specs.Questions.{Accepted}
use Rattle.shape.specs.Tables.{triangle_triangles, square_triangles}
use Rattle.questions.specs.Laws.{tetrahedron, two_sided}
use Rattle.refusal.specs.Refusals.{refusal_number}
use Rattle.shape.specs.Sides.{both}
use Rattle.mesh.specs.Calls.{triangle_faces, all_faces, triangle_lines, major_lines, all_lines, fill, too_often, refusal, buffer_after, face_answer}
use Rattle.mesh.specs.Faces.{faces, faces_of}
use Rattle.mesh.specs.Making.{Making}
use Rattle.mesh.specs.Numbering.{Numbering, made, grown, blank}
use Rattle.mesh.specs.Sinks.{Sink, Writes}
use Rattle.mesh.specs.Strips.{strips, strips_of}

abbrev pub one_triangle : List Triangle
one_triangle = triangle_triangles

abbrev pub square : List Triangle
square = square_triangles

abbrev pub more_5_contents : NumberedContents
more_5_contents = More 18 19 20 2 (21 ∷ 22 ∷ 23 ∷ 24 ∷ 25 ∷ 26 ∷ []) (One 27)

-- a sink that takes everything, with these strips closed and this one open
abbrev pub holding : List (List ℕ) → List ℕ → Sink
holding c o = record { closed = c; last = o; takes = λ p b. true; smaller = λ p b p' b' l m t. tt }

pub smaller_pair : (m n p b p' b' : ℕ) → p' ≤ p → b' ≤ b → T (both (nat_le p m) (nat_le b n)) → T (both (nat_le p' m) (nat_le b' n))
smaller_pair m n p b p' b' h k t = go
  where
    out : (x y : Bool) → T (both x y) → T x × T y
    out true y t = (tt, t)
    out false y t = absurd t

    into : (x y : Bool) → T x → T y → T (both x y)
    into true y s t = t
    into false y s t = s

    go : T (both (nat_le p' m) (nat_le b' n))
    go =
        let x = leb→le p m (out (nat_le p m) (nat_le b n) t).0 in
        let y = leb→le b n (out (nat_le p m) (nat_le b n) t).1 in
        into (nat_le p' m) (nat_le b' n) (le→leb p' m (let z : p' ≤ m = omega arith in z)) (le→leb b' n (let z : b' ≤ n = omega arith in z))

-- an empty sink with space for m numbers and n breaks
abbrev pub space : ℕ → ℕ → Sink
space m n = record { closed = []; last = []; takes = λ p b. both (nat_le p m) (nat_le b n); smaller = smaller_pair m n }

pub record Examples : Type 0 where
  pub triangle_accepted : Accepted 3 3 one_triangle
  pub square_accepted : Accepted 4 5 square
  pub tetrahedron_accepted : Accepted 4 6 tetrahedron
  pub faces_0 : faces one_triangle (made 3 3 1 0) ≡ (2, 1, 0) ∷ []
  pub faces_1 : faces one_triangle (made 3 3 1 1) ≡ (2, 3, 5) ∷ (1, 4, 3) ∷ (0, 5, 4) ∷ (3, 4, 5) ∷ []
  pub faces_2 : take 4 (faces one_triangle (made 3 3 1 2)) ≡ (2, 3, 8) ∷ (1, 5, 4) ∷ (0, 7, 6) ∷ (4, 9, 3) ∷ []
  pub strip_3 :
      strips_of one_triangle (made 3 3 1 3) 0 ≡ (12 ∷ 13 ∷ 14 ∷ 12 ∷ 3 ∷ 11 ∷ 12 ∷ 10 ∷ 14 ∷ 9 ∷ 8 ∷ 14 ∷ 7 ∷ 13 ∷ 6 ∷ 5 ∷ 13 ∷ 4 ∷ 12 ∷ 3 ∷ []) ∷ []
  pub twice_3 : joins nat_eq 3 12 (shown_by (strips_of one_triangle (made 3 3 1 3) 0)) ≡ 2
  pub faces_1_1 : take 3 (faces one_triangle (grown 1 (made 3 3 1 1))) ≡ (2, 3, 8) ∷ (1, 4, 6) ∷ (0, 5, 7) ∷ []
  pub more_5 : (made 3 3 1 5).contents ≡ more_5_contents ∷ []
  -- so its sides are 21 22, 23 24 and 25 26; 21 24 would be false
  pub more_5_ab : pos_ab 0 (view more_5_contents) 1 ≡ 21
  pub more_5_ab_2 : pos_ab 0 (view more_5_contents) 2 ≡ 22
  pub more_5_bc : pos_bc 0 (view more_5_contents) 1 ≡ 23
  pub more_5_bc_2 : pos_bc 0 (view more_5_contents) 2 ≡ 24
  pub more_5_ca : pos_ca 0 (view more_5_contents) 1 ≡ 25
  pub more_5_ca_2 : pos_ca 0 (view more_5_contents) 2 ≡ 26
  pub more_5_positions : positions (view more_5_contents) ≡ 4
  -- the second triangle reads the diagonal backward: 4 would be its forward reading
  pub square_2 : take 1 (faces_of square (made 4 5 2 2) 1) ≡ (0, 5, 13) ∷ []
  pub made_12 : Making 3 3 one_triangle 12 (Ok tt) (made 3 3 1 12)
  pub refused_13 :
      (r : Result (Unit {0}) Refusal) (N : Numbering) → Making 3 3 one_triangle 13 r N → (r ≡ Err (TooManySubdivisions 13)) × (N ≡ blank)
  pub refusal_1 : refusal_number (TooManySubdivisions 13) ≡ 1
  pub two_sided_refused : Making 3 3 two_sided 0 (Err (RepeatedTriangle 1)) blank
  -- the blank mesh has no faces and no strips, not even an empty one
  pub blank_is : made 0 0 0 0 ≡ blank
  pub blank_faces : (N : Numbering) → faces [] N ≡ []
  pub blank_strips : (N : Numbering) → strips [] N ≡ []
  -- every drawing can be written to a sink that takes everything
  pub every_writing : (ls : List (List ℕ)) (c : List (List ℕ)) → Writes ls (holding c []) (holding (c ++ ls) [])
  -- each question of the calls, its limit met and passed by one, and the order of the questions
  pub grows_to_12 : too_often (made 3 3 1 5) 7 ≡ None
  pub not_to_13 : too_often (made 3 3 1 5) 8 ≡ Some (SubdividedTooOften 5 8)
  pub last_triangle : refusal square (made 4 5 2 2) (triangle_faces 1 27) ≡ None
  pub no_triangle : refusal square (made 4 5 2 2) (triangle_faces 2 0) ≡ Some (NoTriangle 2 2)
  pub triangle_room_short : refusal square (made 4 5 2 2) (triangle_faces 1 26) ≡ Some (BufferTooShort 27 26)
  pub room_met : refusal square (made 4 5 2 2) (all_faces 54) ≡ None
  pub room_short : refusal square (made 4 5 2 2) (all_faces 53) ≡ Some (BufferTooShort 54 53)
  -- ten vertices
  pub offset_met : refusal one_triangle (made 3 3 1 2) (all_lines 4294967285 (space 22 5)) ≡ None
  pub offset_over : refusal one_triangle (made 3 3 1 2) (all_lines 4294967286 (space 0 0)) ≡ Some (NumberTooLarge 4294967295)
  pub no_lines_there : refusal one_triangle (made 3 3 1 2) (triangle_lines 1 4294967286 (space 0 0)) ≡ Some (NoTriangle 1 1)
  -- 10 numbers and 2 breaks for the triangle, 4 numbers and a break for each edge
  pub numbers_short : refusal one_triangle (made 3 3 1 2) (all_lines 0 (space 21 5)) ≡ Some (SinkFull 22 5)
  pub breaks_short : refusal one_triangle (made 3 3 1 2) (all_lines 0 (space 22 4)) ≡ Some (SinkFull 22 5)
  pub major_met : refusal one_triangle (made 3 3 1 2) (major_lines 0 (space 12 3)) ≡ None
  pub major_short : refusal one_triangle (made 3 3 1 2) (major_lines 0 (space 12 2)) ≡ Some (SinkFull 12 3)
  pub triangle_lines_met : refusal one_triangle (made 3 3 1 2) (triangle_lines 0 0 (space 10 1)) ≡ None
  pub triangle_lines_short : refusal one_triangle (made 3 3 1 2) (triangle_lines 0 0 (space 9 1)) ≡ Some (SinkFull 10 1)
  pub data_met : refusal one_triangle (made 3 3 1 2) (fill 10) ≡ None
  pub data_short : refusal one_triangle (made 3 3 1 2) (fill 9) ≡ Some (DataTooShort 10 9)
  -- the buffer afterwards, and the answer
  pub buffer_written : buffer_after one_triangle (made 3 3 1 0) (all_faces 4) (7 ∷ 7 ∷ 7 ∷ 9 ∷ []) ≡ 2 ∷ 1 ∷ 0 ∷ 9 ∷ []
  pub buffer_left : buffer_after one_triangle (made 3 3 1 0) (all_faces 2) (7 ∷ 7 ∷ []) ≡ 7 ∷ 7 ∷ []
  pub three_written : face_answer one_triangle (made 3 3 1 0) (all_faces 4) ≡ Ok 3
  pub none_answered : face_answer one_triangle (made 3 3 1 0) (all_faces 2) ≡ Err (BufferTooShort 3 2)

-- What an accepted call writes fits into its buffer or sink.
use Rattle.std.proofs.Common.{◌≡◌, ℕ, ◌+◌, ◌-◌, ◌<◌, ◌≤◌, Bool, true, false, T, ltb, leb, List, [], ◌∷◌, map, length, Some, None, Option, sym, refl, ◌∙◌, subst, ap₂, arith, ltb→lt, leb→le}
use lib.ListN.{length-map}
use Rattle.pattern.specs.Amounts.{lengths, triangle_line_numbers, triangle_line_breaks}
use Rattle.refusal.specs.declared.Refusal.{Refusal}
use Rattle.refusal.specs.declared.Refusal.TheVariants.{NoTriangle, BufferTooShort, NumberTooLarge, SinkFull, DataTooShort}
use Rattle.mesh.specs.Calls.{triangle_faces, all_faces, triangle_lines, major_lines, all_lines, fill, TakenBy, first_no, unless, no_triangle, buffer_short, number_large, sink_full, AcceptedFits}
use Rattle.mesh.specs.Faces.{triangle_face_numbers, all_face_numbers}
use Rattle.mesh.specs.Sinks.{Sink}
use Rattle.mesh.specs.Strips.{strips_of, major_strips, strips, major_numbers, major_breaks, all_numbers, all_breaks, offset_by}
use Rattle.shape.specs.Lists.{Each}
use Rattle.mesh.proofs.Below.{numbers_below}
use Rattle.mesh.proofs.Amounts.{faces_counted, lines_counted}

-- ---- what no refusal says
abbrev Refuses : Option Refusal → Type 0
Refuses None = ⊥
Refuses (Some r) = Unit {0}

some_none : (r : Refusal) → Some r ≡ None → ⊥
some_none r e = subst Refuses e tt

pub yes : (b : Bool) (r : Refusal) → unless b r ≡ None → T b
yes true r e = tt
yes false r e = some_none r e

first_yes : (p q : Option Refusal) → first_no p q ≡ None → p ≡ None
first_yes None q e = refl
first_yes (Some r) q e = e

second_yes : (p q : Option Refusal) → first_no p q ≡ None → q ≡ None
second_yes None q e = e
second_yes (Some r) q e = absurd (some_none r e)

-- ---- the offset changes no amount
offset_lengths : (offset : ℕ) (ls : List (List ℕ)) → lengths (offset_by offset ls) ≡ lengths ls
offset_lengths offset [] = refl
offset_lengths offset (l ∷ ls) = ap₂ (λ x y. x + y) (length-map l (λ x. x + offset)) (offset_lengths offset ls)

offset_numbers : (offset Z : ℕ) → offset + Z ≤ 4294967295 → (l : List ℕ) → Each (λ x. x < Z) l → Each (λ x. x < 4294967295) (map (λ x. x + offset) l)
offset_numbers offset Z h [] a = tt
offset_numbers offset Z h (x ∷ l) a = (let b = a.0 in omega arith, offset_numbers offset Z h l a.1)

offset_below :
    (offset Z : ℕ) → offset + Z ≤ 4294967295 → (ls : List (List ℕ)) → Each (Each (λ x. x < Z)) ls → Each (Each (λ x. x < 4294967295)) (offset_by offset ls)
offset_below offset Z h [] a = tt
offset_below offset Z h (l ∷ ls) a = (offset_numbers offset Z h l a.0, offset_below offset Z h ls a.1)

module _ (s : Sink) (offset Z : ℕ) where
  taken :
      (p b : ℕ) (ls : List (List ℕ)) → lengths ls ≡ p → length ls ≡ b → Each (Each (λ x. x < Z)) ls → unless (leb (offset + Z) 4294967295) (NumberTooLarge (offset + Z - 1)) ≡ None
      → unless (s.takes p b) (SinkFull p b) ≡ None → TakenBy s (offset_by offset ls)
  taken p b ls d e low f t = (
    subst (λ (k : ℕ). T (s.takes k (length (offset_by offset ls)))) (sym (offset_lengths offset ls ∙ d))
        (subst (λ (k : ℕ). T (s.takes p k)) (sym (length-map ls (map (λ x. x + offset)) ∙ e)) (yes (s.takes p b) (SinkFull p b) t)),
    offset_below offset Z
        (leb→le (offset + Z) 4294967295 (yes (leb (offset + Z) 4294967295) (NumberTooLarge (offset + Z - 1)) f)) ls low,
  )

pub accepted_fits : AcceptedFits
accepted_fits P E ts A N R (triangle_faces t room) e =
    let there = yes (ltb t (length ts)) (NoTriangle t (length ts)) (first_yes (no_triangle ts N t) (buffer_short ts N (triangle_face_numbers N) room) e) in
    let space = yes (leb (triangle_face_numbers N) room) (BufferTooShort (triangle_face_numbers N) room) (second_yes (no_triangle ts N t) (buffer_short ts N (triangle_face_numbers N) room) e) in
    let size = (faces_counted P E ts A N R).triangle t (ltb→lt t (length ts) there) in
    omega (arith, leb→le (triangle_face_numbers N) room space)
accepted_fits P E ts A N R (all_faces room) e =
    let space = yes (leb (all_face_numbers ts N) room) (BufferTooShort (all_face_numbers ts N) room) e in
    let size = (faces_counted P E ts A N R).all in
    omega (arith, leb→le (all_face_numbers ts N) room space)
accepted_fits P E ts A N R (triangle_lines t offset s) e =
    let p : ℕ = triangle_line_numbers N.n in
    let b : ℕ = triangle_line_breaks N.n in
    let rest = first_no (number_large ts N offset) (sink_full ts N s p b) in
    let l = ltb→lt t (length ts) (yes (ltb t (length ts)) (NoTriangle t (length ts)) (first_yes (no_triangle ts N t) rest e)) in
    let f = second_yes (no_triangle ts N t) rest e in
    let L = lines_counted P E ts A N R in
    taken s offset N.total p b (strips_of ts N t) (L.triangle_numbers t l) (L.triangle_breaks t l) ((numbers_below P E ts A N R).triangle_lines t)
    (first_yes (number_large ts N offset) (sink_full ts N s p b) f) (second_yes (number_large ts N offset) (sink_full ts N s p b) f)
accepted_fits P E ts A N R (major_lines offset s) e =
    let p : ℕ = major_numbers N in
    let b : ℕ = major_breaks N in
    let L = lines_counted P E ts A N R in
    taken s offset N.total p b (major_strips ts N) L.major_numbers_lem L.major_breaks_lem (numbers_below P E ts A N R).major_lines
    (first_yes (number_large ts N offset) (sink_full ts N s p b) e) (second_yes (number_large ts N offset) (sink_full ts N s p b) e)
accepted_fits P E ts A N R (all_lines offset s) e =
    let p : ℕ = all_numbers ts N in
    let b : ℕ = all_breaks ts N in
    let L = lines_counted P E ts A N R in
    taken s offset N.total p b (strips ts N) L.all_numbers_lem L.all_breaks_lem (numbers_below P E ts A N R).all_lines
    (first_yes (number_large ts N offset) (sink_full ts N s p b) e) (second_yes (number_large ts N offset) (sink_full ts N s p b) e)
accepted_fits P E ts A N R (fill room) e = leb→le N.total room (yes (leb N.total room) (DataTooShort N.total room) e)

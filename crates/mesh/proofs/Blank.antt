-- The mesh of a refused making stays blank.
use Rattle.std.proofs.Common.{◌≡◌, ℕ, ◌+◌, ◌*◌, ◌≤◌, Bool, true, false, T, ltb, leb, [], Some, None, Option, sym, refl, ap, ◌∙◌, subst, arith}
use Rattle.refusal.specs.declared.Refusal.{Refusal}
use Rattle.refusal.specs.declared.Refusal.TheVariants.{NoTriangle, BufferTooShort, DataTooShort}
use Rattle.questions.proofs.Tests.{is_true}
use Rattle.mesh.specs.Blank.{BlankMesh, BlankStands}
use Rattle.mesh.specs.Calls.{Ask, triangle_faces, all_faces, triangle_lines, major_lines, all_lines, fill, first_no, unless, numbers_written, strips_written}
use Rattle.mesh.specs.Faces.{all_face_numbers}
use Rattle.mesh.specs.Numbering.{Numbering, Reached, making, subdividing, grown}
use Rattle.mesh.specs.Sinks.{Sink}
use Rattle.mesh.specs.Strips.{major_numbers, all_numbers, all_breaks}

-- blank, after n subdivisions
abbrev blank_at : ℕ → Numbering
blank_at n = record { n = n; total = 0; edges = []; contents = [] }

record Blank (N : Numbering) : Type 0 where
  pub n : ℕ
  pub is : N ≡ blank_at n

none_taken : (k : ℕ) → 0 + k * 0 ≡ 0
none_taken k = omega arith

stays : (N : Numbering) → Reached 0 0 [] N → Blank N
stays N (making n h) = record { n = n; is = λ i. record { n = n; total = none_taken n i; edges = []; contents = [] } }
stays N (subdividing {N = M} amount r h) = go (stays M r)
  where
    go : Blank M → Blank (grown amount M)
    go b =
        record {
          n = b.n + amount;
          is = ap (grown amount) b.is ∙ (λ i. record { n = b.n + amount; total = none_taken amount i; edges = []; contents = [] });
        }

passes : (b : Bool) (r : Refusal) → b ≡ true → unless b r ≡ None
passes b r e = ap (λ v. unless v r) e

both_pass : (p q : Option Refusal) → p ≡ None → q ≡ None → first_no p q ≡ None
both_pass p q d e = ap (λ v. first_no v q) d ∙ e

below_none : (t : ℕ) → ltb t 0 ≡ false
below_none t = grind arith

fits_in : (m n : ℕ) → m ≤ n → leb m n ≡ true
fits_in m n h = grind arith

no_such : (t : ℕ) (q : Option Refusal) → first_no (unless (ltb t 0) (NoTriangle t 0)) q ≡ Some (NoTriangle t 0)
no_such t q = ap (λ b. first_no (unless b (NoTriangle t 0)) q) (below_none t)

takes_none : (s : Sink) (p b : ℕ) → p ≡ 0 → b ≡ 0 → T (s.takes 0 0) → s.takes p b ≡ true
takes_none s p b d e t = (λ i. s.takes (d i) (e i)) ∙ is_true (s.takes 0 0) t

blank_at_lem : (n : ℕ) → BlankMesh (blank_at n)
blank_at_lem n =
    record {
      no_vertex = refl;
      no_edges = refl;
      no_contents = refl;
      no_faces_of = λ t room. no_such t (unless (leb (3 * ((n + 1) * (n + 1))) room) (BufferTooShort (3 * ((n + 1) * (n + 1))) room));
      no_lines_of = λ t offset s. no_such t _;
      all_faces_pass = λ room. passes (leb (all_face_numbers [] (blank_at n)) room) (BufferTooShort (all_face_numbers [] (blank_at n)) room) (fits_in (all_face_numbers [] (blank_at n)) room (omega arith));
      major_lines_pass = λ offset s h t. both_pass _ _ (passes (leb (offset + 0) 4294967295) _ (fits_in (offset + 0) 4294967295 (omega arith)))
          (passes (s.takes (major_numbers (blank_at n)) 0) _ (takes_none s (major_numbers (blank_at n)) 0 (omega arith) refl t));
      all_lines_pass = λ offset s h t. both_pass _ _ (passes (leb (offset + 0) 4294967295) _ (fits_in (offset + 0) 4294967295 (omega arith)))
          (passes (s.takes (all_numbers [] (blank_at n)) (all_breaks [] (blank_at n))) _ (takes_none s (all_numbers [] (blank_at n)) (all_breaks [] (blank_at n)) (omega arith) (omega arith) t));
      fill_passes = λ room. passes (leb 0 room) (DataTooShort 0 room) (fits_in 0 room (omega arith));
      no_numbers = λ a. numbers a;
      no_strips = λ a. strips a;
    }
  where
    numbers : (a : Ask) → numbers_written [] (blank_at n) a ≡ []
    numbers (triangle_faces t room) = refl
    numbers (all_faces room) = refl
    numbers (triangle_lines t offset s) = refl
    numbers (major_lines offset s) = refl
    numbers (all_lines offset s) = refl
    numbers (fill room) = refl

    strips : (a : Ask) → strips_written [] (blank_at n) a ≡ []
    strips (triangle_faces t room) = refl
    strips (all_faces room) = refl
    strips (triangle_lines t offset s) = refl
    strips (major_lines offset s) = refl
    strips (all_lines offset s) = refl
    strips (fill room) = refl

pub blank_stands : BlankStands
blank_stands N r = let b = stays N r in subst BlankMesh (sym b.is) (blank_at_lem b.n)

-- The worked examples hold.
use Rattle.std.proofs.Common.{◌≡◌, ℕ, List, [], ◌∷◌, ◌++◌, Err, Result, sym, refl, ap, subst, append_assoc, append-nil, arith}
use Rattle.refusal.specs.declared.Refusal.{Refusal}
use Rattle.refusal.specs.declared.Refusal.TheVariants.{TooManySubdivisions}
use Rattle.questions.specs.Laws.{tetrahedron, two_sided}
use Rattle.mesh.specs.Examples.{Examples, holding, one_triangle, square}
use Rattle.mesh.specs.Making.{Making, too_often, refused, too_large, accepted}
use Rattle.mesh.specs.Numbering.{Numbering, blank}
use Rattle.mesh.specs.Sinks.{Sink, Writes, nothing, a_number, a_break}
use Rattle.questions.proofs.Verdicts.{answer_verdict}
use Rattle.mesh.proofs.Making.{accepted_made}

only_13 : (r : Result (Unit {0}) Refusal) (N : Numbering) → Making 3 3 one_triangle 13 r N → (r ≡ Err (TooManySubdivisions 13)) × (N ≡ blank)
only_13 r N (too_often h) = (refl, refl)
only_13 r N (refused h q) = absurd (let z : ⊥ = omega arith in z)
only_13 r N (too_large h A l) = absurd (let z : ⊥ = omega arith in z)
only_13 r N (accepted h A l) = absurd (let z : ⊥ = omega arith in z)

-- one strip, number by number, where nothing limits the sink
one_writing :
    (l : List ℕ) (ls c : List (List ℕ)) (o : List ℕ) {s'' : Sink} → Writes ls (holding (c ++ (o ++ l) ∷ []) []) s'' → Writes (l ∷ ls) (holding c o) s''
one_writing [] ls c o w =
    a_break (record { closed_is = ap (λ v. c ++ v ∷ []) (append-nil o); last_is = refl; takes_still = λ p b t. t }) w
one_writing (x ∷ l) ls c o {s'' = t} w =
    a_number (record { closed_is = refl; last_is = refl; takes_still = λ p b t. t })
    (one_writing l ls c (o ++ x ∷ []) (subst (λ v. Writes ls (holding (c ++ v ∷ []) []) t) (sym (append_assoc o (x ∷ []) l)) w))

every_writing : (ls c : List (List ℕ)) → Writes ls (holding c []) (holding (c ++ ls) [])
every_writing [] c = subst (λ v. Writes [] (holding c []) (holding v [])) (sym (append-nil c)) nothing
every_writing (l ∷ ls) c =
    one_writing l ls c [] (subst (λ v. Writes ls (holding (c ++ l ∷ []) []) (holding v [])) (append_assoc c (l ∷ []) ls) (every_writing ls (c ++ l ∷ [])))

pub examples : Examples
examples =
    record {
      triangle_accepted = answer_verdict 3 3 one_triangle;
      square_accepted = answer_verdict 4 5 square;
      tetrahedron_accepted = answer_verdict 4 6 tetrahedron;
      faces_0 = refl;
      faces_1 = refl;
      faces_2 = refl;
      strip_3 = refl;
      twice_3 = refl;
      faces_1_1 = refl;
      more_5 = refl;
      more_5_ab = refl;
      more_5_ab_2 = refl;
      more_5_bc = refl;
      more_5_bc_2 = refl;
      more_5_ca = refl;
      more_5_ca_2 = refl;
      more_5_positions = refl;
      square_2 = refl;
      made_12 = (accepted_made 3 3 one_triangle 12 (answer_verdict 3 3 one_triangle) (omega arith)).passes;
      refused_13 = only_13;
      refusal_1 = refl;
      two_sided_refused = refused (omega arith) (answer_verdict 3 3 two_sided);
      blank_is = refl;
      blank_faces = λ N. refl;
      blank_strips = λ N. refl;
      every_writing = every_writing;
      grows_to_12 = refl;
      not_to_13 = refl;
      last_triangle = refl;
      no_triangle = refl;
      triangle_room_short = refl;
      room_met = refl;
      room_short = refl;
      offset_met = refl;
      offset_over = refl;
      no_lines_there = refl;
      numbers_short = refl;
      breaks_short = refl;
      major_met = refl;
      major_short = refl;
      triangle_lines_met = refl;
      triangle_lines_short = refl;
      data_met = refl;
      data_short = refl;
      buffer_written = refl;
      buffer_left = refl;
      three_written = refl;
      none_answered = refl;
    }

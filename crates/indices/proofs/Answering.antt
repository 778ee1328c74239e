-- What a face call answers and leaves where nothing refuses it.
use Rattle.std.proofs.Common.{◌≡◌, ℕ, ◌+◌, ◌*◌, ◌<◌, ◌≤◌, List, ◌++◌, length, drop, None, Ok, sym, ap, ◌∙◌, zero-add, add-mul, arith, leb, le-leb, lt-ltb}
use Rattle.std.proofs.Math.Nat.{mul-le-mul_right}
use Rattle.pattern.specs.Ring.{Face}
use Rattle.shape.specs.declared.triangle.Triangle.{Triangle}
use Rattle.refusal.specs.declared.Refusal.TheVariants.{NoTriangle, BufferTooShort}
use Rattle.mesh.specs.Calls.{Ask}
use Rattle.mesh.specs.Calls.{answered_or, buffer_after, face_answer, first_no, numbers_written, refusal, all_faces, triangle_faces, unless, unless_refused}
use Rattle.mesh.specs.Faces.{face_numbers}
use Rattle.mesh.specs.Numbering.{Numbering}
use Rattle.mesh.proofs.Amounts.{three_each}
use Rattle.faces.specs.Written.{Wrote}

pub square_small : (n : ℕ) → n ≤ 12 → (n + 1) * (n + 1) ≤ 169
square_small n h =
    let k : n + 1 ≤ 13 = omega arith in
    let m : (n + 1) * (n + 1) ≤ 13 * (n + 1) = mul-le-mul_right (n + 1) k in
    omega arith

-- nothing refuses a triangle that is there and a buffer that is long enough
pub triangle_passes :
    (ts : List Triangle) (N : Numbering) (i room : ℕ) → i < length ts → 3 * ((N.n + 1) * (N.n + 1)) ≤ room → refusal ts N (triangle_faces i room) ≡ None
triangle_passes ts N i room there fits =
    let needed : ℕ = 3 * ((N.n + 1) * (N.n + 1)) in
    ap (λ b. first_no (unless b (NoTriangle i (length ts))) (unless (leb needed room) (BufferTooShort needed room))) (lt-ltb i (length ts) there)
    ∙ ap (λ b. unless b (BufferTooShort needed room)) (le-leb needed room fits)

pub whole_passes :
    (ts : List Triangle) (N : Numbering) (room : ℕ) → length ts * (3 * ((N.n + 1) * (N.n + 1))) ≤ room → refusal ts N (all_faces room) ≡ None
whole_passes ts N room fits =
    let needed : ℕ = length ts * (3 * ((N.n + 1) * (N.n + 1))) in
    ap (λ b. unless b (BufferTooShort needed room)) (le-leb needed room fits)

module _ (ts : List Triangle) (N : Numbering) (a : Ask) (nothing : refusal ts N a ≡ None) (old new : List ℕ) (fs : List (Face ℕ)) (r : ℕ)
    (w : Wrote old 0 fs new r) (same : numbers_written ts N a ≡ face_numbers fs) where
  pub answered : Ok r ≡ face_answer ts N a
  answered =
      let z : r ≡ length (face_numbers fs) = omega (arith, w.next_is, three_each fs) in
      ap Ok (z ∙ sym (ap length same)) ∙ sym (ap (λ o. answered_or o (length (numbers_written ts N a))) nothing)

  pub left : new ≡ buffer_after ts N a old
  left =
      w.holds ∙ ap (λ n. face_numbers fs ++ drop n old) (zero-add (length (face_numbers fs))) ∙ ap (λ xs. xs ++ drop (length xs) old) (sym same)
      ∙ sym (ap (λ o. unless_refused o (numbers_written ts N a ++ drop (length (numbers_written ts N a)) old) old) nothing)

-- a call of K numbers for each of T triangles has room for one more after i of them
next_times : (i K : ℕ) → (i + 1) * K ≡ i * K + K
next_times i K = add-mul i 1 K ∙ (let z : i * K + 1 * K ≡ i * K + K = omega arith in z)

pub room_left : (i T K L at : ℕ) → i < T → at ≡ i * K → T * K ≤ L → at + K ≤ L
room_left i T K L at h e fits =
    let k : i + 1 ≤ T = omega arith in
    let m : (i + 1) * K ≤ T * K = mul-le-mul_right K k in
    let s : (i + 1) * K ≡ i * K + K = next_times i K in
    omega arith

pub counted_more : (i K at r : ℕ) → at ≡ i * K → r ≡ at + K → r ≡ (i + 1) * K
counted_more i K at r e f = f ∙ ap (λ a. a + K) e ∙ sym (next_times i K)

pub product_small : (T K : ℕ) → T ≤ 32 → K ≤ 507 → T * K ≤ 16224
product_small T K h k =
    let m : T * K ≤ 32 * K = mul-le-mul_right K h in
    omega arith

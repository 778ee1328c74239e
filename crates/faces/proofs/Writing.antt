-- Faces written one behind another.
use Rattle.std.proofs.Common.{◌≡◌, ℕ, ◌+◌, ◌<◌, ◌≤◌, List, [], ◌∷◌, ◌++◌, length, get_or, take, set, sym, refl, ap, ◌∙◌, subst, ap₂, add-zero, arith, length-append}
use lib.Seq.{paste}
use Rattle.std.proofs.lemmas.List.Edits.{paste_none, length-paste, paste_more, paste_all, paste-paste}
use Rattle.std.proofs.lemmas.List.{take_more}
use Rattle.pattern.specs.Ring.{Face}
use Rattle.mesh.specs.Faces.{face_numbers}
use Rattle.mesh.proofs.Amounts.{three_each}
use Rattle.faces.specs.declared.writer.FaceWriter.{FaceWriter}
use Rattle.faces.specs.Writer.{Writes}
use Rattle.faces.specs.Written.{written, Wrote}

-- the library's word for it
pasted : (out : List ℕ) (at : ℕ) (xs : List ℕ) → paste out at xs (length xs) ≡ written out at xs
pasted out at xs = paste_all out at xs (length xs) refl

written-length : (out : List ℕ) (at : ℕ) (xs : List ℕ) → at + length xs ≤ length out → length (written out at xs) ≡ length out
written-length out at xs h = sym (ap length (pasted out at xs)) ∙ length-paste out at xs (length xs) h (omega arith)

written_more :
    (out : List ℕ) (at : ℕ) (xs ys : List ℕ) → at + length xs ≤ length out
    → written (written out at xs) (at + length xs) ys ≡ written out at (xs ++ ys)
written_more out at xs ys h =
    sym (pasted (written out at xs) (at + length xs) ys) ∙ ap (λ o. paste o (at + length xs) ys (length ys)) (sym (pasted out at xs))
    ∙ paste-paste out at xs ys (length xs) (length ys) refl refl (omega arith)
    ∙ ap (paste out at (xs ++ ys)) (sym (length-append xs ys)) ∙ pasted out at (xs ++ ys)

written_three :
    (out : List ℕ) (at a b c : ℕ) → at + 3 ≤ length out
    → set (set (set out at a) (at + 1) b) (at + 2) c ≡ written out at (a ∷ b ∷ c ∷ [])
written_three out at a b c h =
    let xs : List ℕ = a ∷ b ∷ c ∷ [] in
    ap₂ (λ o i. set (set (set o i a) (at + 1) b) (at + 2) c) (paste_none out at xs) (sym (add-zero at))
    ∙ ap (λ o. set (set o (at + 1) b) (at + 2) c) (paste_more out at xs 0 0 (omega arith) (omega arith))
    ∙ ap (λ o. set o (at + 2) c) (paste_more out at xs 1 0 (omega arith) (omega arith))
    ∙ paste_more out at xs 2 0 (omega arith) (omega arith) ∙ pasted out at xs

pub numbers-append : (fs gs : List (Face ℕ)) → face_numbers (fs ++ gs) ≡ face_numbers fs ++ face_numbers gs
numbers-append [] gs = refl
numbers-append (f ∷ fs) gs = ap (λ l. f.0 ∷ f.1 ∷ f.2 ∷ l) (numbers-append fs gs)

room_for : {old new : List ℕ} {at p : ℕ} {fs : List (Face ℕ)} → Wrote old at fs new p → at + length (face_numbers fs) ≤ length old
room_for {fs = fs} v = omega (arith, three_each fs, v.next_is, v.fits)

pub put :
    (out : List ℕ) (at : ℕ) (f : Face ℕ) → at + 3 ≤ length out
    → Wrote out at (f ∷ []) (set (set (set out at f.0) (at + 1) f.1) (at + 2) f.2) (at + 3)
put out at f h = record { next_is = refl; fits = h; holds = written_three out at f.0 f.1 f.2 h }

-- no faces
pub still : (out : List ℕ) (at : ℕ) → at ≤ length out → Wrote out at [] out at
still out at h = record { next_is = sym (add-zero at); fits = h; holds = paste_none out at [] ∙ pasted out at [] }

pub as_long : {old new : List ℕ} {at p : ℕ} {fs : List (Face ℕ)} → Wrote old at fs new p → length new ≡ length old
as_long {old = old} {at = at} {fs = fs} v = ap length v.holds ∙ written-length old at (face_numbers fs) (room_for v)

pub joined :
    {old mid new : List ℕ} {at p q : ℕ} {fs gs : List (Face ℕ)} → Wrote old at fs mid p → Wrote mid p gs new q
    → Wrote old at (fs ++ gs) new q
joined {old = old} {mid = mid} {new = new} {at = at} {p = p} {q = q} {fs = fs} {gs = gs} v w =
    let l : length (fs ++ gs) ≡ length fs + length gs = length-append fs gs in
    let k : length mid ≡ length old = as_long v in
    let e : p ≡ at + length (face_numbers fs) = omega (arith, three_each fs, v.next_is) in
    record {
      next_is = omega (arith, v.next_is, w.next_is);
      fits = omega (arith, w.fits);
      holds =
          w.holds ∙ ap₂ (λ o n. written o n (face_numbers gs)) v.holds e ∙ written_more old at (face_numbers fs) (face_numbers gs) (room_for v)
          ∙ ap (written old at) (sym (numbers-append fs gs));
    }

pub same : {old new : List ℕ} {at p : ℕ} {fs gs : List (Face ℕ)} → fs ≡ gs → Wrote old at fs new p → Wrote old at gs new p
same {old = old} {new = new} {at = at} {p = p} e w = subst (λ (l : List (Face ℕ)). Wrote old at l new p) e w

-- one face more of a list
pub face_more :
    {old mid : List ℕ} {at p : ℕ} (fs : List (Face ℕ)) (i : ℕ) (d : Face ℕ) → i < length fs → p + 3 ≤ length mid → Wrote old at (take i fs) mid p
    → let f = get_or fs i d in Wrote old at (take (i + 1) fs) (set (set (set mid p f.0) (p + 1) f.1) (p + 2) f.2) (p + 3)
face_more {mid = mid} {p = p} fs i d h room w = same (sym (take_more fs i d h)) (joined w (put mid p (get_or fs i d) room))

-- the buffer keeps its length
pub long_buffer : {old new : FaceWriter} {fs : List (Face ℕ)} → Writes fs old new → length new.out.now ≡ length old.out.now
long_buffer v = as_long v.wrote

-- faces, and then others right behind them
pub glue : {old mid new : FaceWriter} {fs gs : List (Face ℕ)} → Writes fs old mid → Writes gs mid new → Writes (fs ++ gs) old new
glue v w = record { wrote = joined v.wrote w.wrote; same_buffer = w.same_buffer ∙ v.same_buffer }

-- the same faces under another name
pub renamed : {old new : FaceWriter} {fs gs : List (Face ℕ)} → fs ≡ gs → Writes fs old new → Writes gs old new
renamed {old = old} {new = new} e w = subst (λ (l : List (Face ℕ)). Writes l old new) e w

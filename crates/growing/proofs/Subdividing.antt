-- What lengthening the edges and stepping the contents make of the tables.
use Rattle.std.proofs.Common.{◌≡◌, ℕ, zero, suc, ◌+◌, ◌-◌, ◌*◌, ◌≤◌, Bool, cond, List, map, length, sym, ap, ◌∙◌, subst, arith}
use lib.Dec.{eqb-suc-zero}
use Rattle.std.proofs.lemmas.List.{length-map}
use Rattle.mesh.specs.Numbering.{lengthened, all_stepped, after_all, steps_for, grown}
use Rattle.rings.specs.declared.contents.Ring.{Ring}
use Rattle.rings.specs.declared.contents.TriangleContents.{TriangleContents}
use Rattle.rings.specs.declared.contents.TriangleContents.TheVariants as kind
use Rattle.rings.specs.Held.{Fits, ring_at}
use Rattle.rings.specs.Sides.{side_len}
use Rattle.growing.specs.declared.edge.Edge.{Edge}
use Rattle.growing.specs.Edges.{edge_vertices}
use Rattle.growing.specs.SteppingAll.{kind_at, all_held, AllPlaced, ReadyAll, MovesAll}
use Rattle.growing.specs.Standing.{numbering}

-- contents of the counts 0 and 1 are none
fits_few : (rs : List Ring) (d m m' : ℕ) (t : TriangleContents) → m ≤ 1 → m' ≤ 1 → Fits rs d m t → Fits rs d m' t
fits_few rs d m m' kind.None p q f = q
fits_few rs d m m' (kind.One x) p q f = absurd (omega arith)
fits_few rs d m m' (kind.Three a b c) p q f = absurd (omega arith)
fits_few rs d m m' (kind.Six a b c ab bc ca) p q f = absurd (omega arith)
fits_few rs zero m m' (kind.More i) p q f = absurd f
fits_few rs (suc d) m m' (kind.More i) p q f = let e : m ≡ 3 + side_len (ring_at rs i) = f.1 in absurd (omega arith)

few_placed : (rs : List Ring) (m m' : ℕ) (ts : List TriangleContents) → m ≤ 1 → m' ≤ 1 → AllPlaced rs m ts → AllPlaced rs m' ts
few_placed rs m m' ts p q a i l =
    let w = a i l in
    record { fits = fits_few rs 3 m m' (kind_at ts i) p q w.fits; own = w.own; room = w.room; equal = w.equal }

-- the count from which contents step: the first subdivision gives them nothing
abbrev pub from : ℕ → ℕ
from zero = 1
from (suc n) = suc n

steps_later : (n amount : ℕ) → amount ≡ steps_for (suc n) amount
steps_later n amount = ap (λ (b : Bool). cond b (amount - 1) amount) (sym (eqb-suc-zero n))

pub ready_from :
    (rs : List Ring) (n amount : ℕ) (ts : List TriangleContents) → n + amount ≤ 12 → AllPlaced rs n ts → ReadyAll rs (from n) (steps_for n amount) ts
ready_from rs zero amount ts p a = record { placed = few_placed rs 0 1 ts (omega arith) (omega arith) a; some = omega arith; few = omega arith }
ready_from rs (suc n) amount ts p a =
    subst (λ (k : ℕ). ReadyAll rs (suc n) k ts) (steps_later n amount) record { placed = a; some = omega arith; few = p }

pub placed_from :
    (rs : List Ring) (n amount : ℕ) (ts : List TriangleContents) → AllPlaced rs (from n + steps_for n amount) ts → AllPlaced rs (n + amount) ts
placed_from rs zero zero ts a = few_placed rs 1 0 ts (omega arith) (omega arith) a
placed_from rs zero (suc amount) ts a =
    let e : 1 + (suc amount - 1) ≡ 0 + suc amount = omega arith in subst (λ (m : ℕ). AllPlaced rs m ts) e a
placed_from rs (suc n) amount ts a = subst (λ (k : ℕ). AllPlaced rs (suc n + k) ts) (sym (steps_later n amount)) a

pub subdivided :
    (n amount total h h' m : ℕ) (es es' : List Edge) (ts ts' : List TriangleContents) (rs rs' : List Ring)
    → map edge_vertices es' ≡ lengthened total amount (map edge_vertices es) → h ≡ total + amount * length es
    → MovesAll rs m (steps_for n amount) ts h rs' ts' h' → numbering (n + amount) h' es' ts' rs' ≡ grown amount (numbering n total es ts rs)
subdivided n amount total h h' m es es' ts ts' rs rs' edges next v =
    let k : ℕ = steps_for n amount in
    let start : h ≡ total + amount * length (map edge_vertices es) = next ∙ ap (λ x. total + amount * x) (sym (length-map es edge_vertices)) in
    let last : h' ≡ (grown amount (numbering n total es ts rs)).total = v.next_is ∙ ap (λ x. after_all x k (all_held rs ts)) start in
    let held = v.held_are ∙ ap (λ x. all_stepped x k (all_held rs ts)) start in
    λ i. record { n = n + amount; total = last i; edges = edges i; contents = held i }

-- What the order that is being read holds, and what each instruction makes of it.
use Rattle.std.specs.Prelude.{◌≡◌, ℕ, List, [], ◌∷◌, ◌++◌, length, Some, None, Ok, Err, Option, Result}
use Rattle.point.specs.declared.Vec3A.{Vec3A}
use Rattle.shape.specs.declared.triangle.Triangle.{Triangle}
use Rattle.shape.specs.Tables.{triangle_points, triangle_triangles, square_points, square_triangles}
use Rattle.line.specs.declared.instruction.Kind.{Kind}
use Rattle.line.specs.declared.instruction.Kind.TheVariants.{Triangle as TriangleKind, Square, List as ListKind}
use Rattle.line.specs.declared.instruction.Instruction.{Instruction}
use Rattle.line.specs.declared.instruction.Instruction.TheVariants.{Base, Edges, Point, Triangle as TriangleLine, Check}
use Rattle.line.specs.declared.expected.Expected.{Expected}
use Rattle.line.specs.declared.expected.Expected.TheVariants.{BaseFirst, CheckFirst, CheckBeforeEnd, ListBase, OneEdges, EdgesFirst}
use Rattle.order.specs.declared.fault.Fault.{Fault}
use Rattle.order.specs.declared.fault.Fault.TheVariants.{Unread, Memory}
use Rattle.order.specs.declared.report.Report.{Report}
use Rattle.order.specs.Reports.{Reports}

-- what was read of an order so far
pub record Sheet : Type 0 where
  pub kind : Option Kind
  pub edges : Option ℕ
  pub points : List Vec3A
  pub triangles : List Triangle

abbrev pub empty_sheet : Sheet
empty_sheet = record { kind = None; edges = None; points = []; triangles = [] }

-- r, where the order has a list base
abbrev pub list_only : {X : Type 0} → Option Kind → Result X Expected → Result X Expected
list_only None r = Err BaseFirst
list_only (Some TriangleKind) r = Err ListBase
list_only (Some Square) r = Err ListBase
list_only (Some ListKind) r = r

-- r, where no order is begun
abbrev pub none_begun : {X : Type 0} → Option Kind → Result X Expected → Result X Expected
none_begun None r = r
none_begun (Some k) r = Err CheckFirst

-- r, where no edges were read
abbrev pub no_edges : {X : Type 0} → Option ℕ → Result X Expected → Result X Expected
no_edges None r = r
no_edges (Some e) r = Err OneEdges

-- r, where an order is begun and, if its base is a list, its edges were read
abbrev pub checkable : {X : Type 0} → Option Kind → Option ℕ → Result X Expected → Result X Expected
checkable None e r = Err BaseFirst
checkable (Some TriangleKind) e r = r
checkable (Some Square) e r = r
checkable (Some ListKind) None r = Err EdgesFirst
checkable (Some ListKind) (Some e) r = r

-- what an instruction makes of a sheet, or what was expected in its place; after a check a new order begins
abbrev pub takes : Instruction → Sheet → Result Sheet Expected
takes (Base k) s = none_begun s.kind (Ok (record s { kind = Some k }))
takes (Edges e) s = list_only s.kind (no_edges s.edges (Ok (record s { edges = Some e })))
takes (Point p) s = list_only s.kind (Ok (record s { points = s.points ++ p ∷ [] }))
takes (TriangleLine t) s = list_only s.kind (Ok (record s { triangles = s.triangles ++ t ∷ [] }))
takes Check s = checkable s.kind s.edges (Ok empty_sheet)

-- the answer where the input ends: no order is left unchecked
abbrev pub ended : Option Kind → Result (Unit {0}) Expected
ended None = Ok tt
ended (Some k) = Err CheckBeforeEnd

-- the instructions that need memory
abbrev pub Grows : Instruction → Type 0
Grows (Base k) = ⊥
Grows (Edges e) = ⊥
Grows (Point p) = Unit {0}
Grows (TriangleLine t) = Unit {0}
Grows Check = ⊥

-- the instruction is taken, or refused with what was expected, which leaves the sheet
abbrev pub Taken : Sheet → Instruction → Result (Unit {0}) Expected → Sheet → Type 0
Taken s i (Ok _) new = takes i s ≡ Ok new
Taken s i (Err e) new = (takes i s ≡ Err e) × (new ≡ s)

-- what is reported of the base that a sheet describes
abbrev pub ReportOn : Option Kind → Option ℕ → List Vec3A → List Triangle → Report → Type 0
ReportOn None e ps ts r = ⊥
ReportOn (Some TriangleKind) e ps ts r = Reports TriangleKind (length triangle_points) 3 triangle_triangles r
ReportOn (Some Square) e ps ts r = Reports Square (length square_points) 5 square_triangles r
ReportOn (Some ListKind) None ps ts r = ⊥
ReportOn (Some ListKind) (Some e) ps ts r = Reports ListKind (length ps) e ts r

abbrev pub Checked : Sheet → Result Report Expected → Sheet → Type 0
Checked s (Ok r) new = (takes Check s ≡ Ok new) × ReportOn s.kind s.edges s.points s.triangles r
Checked s (Err e) new = (takes Check s ≡ Err e) × (new ≡ s)

-- the instructions that are not answered
abbrev pub Silent : Instruction → Type 0
Silent (Base k) = Unit {0}
Silent (Edges e) = Unit {0}
Silent (Point p) = Unit {0}
Silent (TriangleLine t) = Unit {0}
Silent Check = ⊥

-- the instruction is taken and, if it is a check, answered; or it is refused, or there is no memory for it, and the sheet is as it was
abbrev pub Answered : Sheet → Instruction → Result (Option Report) Fault → Sheet → Type 0
Answered s i (Ok None) new = Silent i × (takes i s ≡ Ok new)
Answered s i (Ok (Some r)) new = (i ≡ Check) × Checked s (Ok r) new
Answered s i (Err (Unread e)) new = (takes i s ≡ Err e) × (new ≡ s)
Answered s i (Err Memory) new = Grows i × (new ≡ s)

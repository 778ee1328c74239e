-- An accepted base is made at every count up to 12.
use Rattle.std.proofs.Common.{◌≤◌, length, arith}
use Rattle.mesh.specs.Making.{accepted, AcceptedMade}
use Rattle.mesh.specs.Numbering.{making, made}
use Rattle.mesh.proofs.Counted.{vertices_once}

pub accepted_made : AcceptedMade
accepted_made P E ts n A h =
    let f = (vertices_once P E ts A (made P E (length ts) n) (making n h)).fits in
    record {
      passes = accepted h A (let z : (made P E (length ts) n).total ≤ 4294967295 = omega arith in z);
      never_large = λ l. let z : ⊥ = omega arith in z;
    }

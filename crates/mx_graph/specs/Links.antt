-- Options of ids as numbers, of which the greatest stands for none. No public clause cites this module.
use Rattle.std.proofs.Common.{◌≡◌, ℕ, true, false, eqb, Option, Some, None, refl, sym}
use Rattle.std.specs.Prelude.{◌==◌, if◌then◌else◌}
use Rattle.std.proofs.lemmas.Bool.{eqb-true}
use Rattle.mx_graph.specs.declared.ids.NodeId.{NodeId}
use Rattle.mx_graph.specs.declared.ids.EdgeId.{EdgeId}

abbrev pub node_link : ℕ → Option NodeId
node_link n = if n == 4294967295 then None else Some (record { at = n })

abbrev pub node_number : Option NodeId → ℕ
node_number None = 4294967295
node_number (Some id) = id.at

pub node_number-node_link : (n : ℕ) → node_number (node_link n) ≡ n
node_number-node_link n =
    elim (eqb n 4294967295) as (λ b. eqb n 4294967295 ≡ b → node_number (if b then None else Some (record { at = n })) ≡ n) [
      | true ↦ λ t. sym (eqb-true n 4294967295 t)
      | false ↦ λ t. refl
    ] refl

abbrev pub edge_link : ℕ → Option EdgeId
edge_link n = if n == 4294967295 then None else Some (record { at = n })

abbrev pub edge_number : Option EdgeId → ℕ
edge_number None = 4294967295
edge_number (Some id) = id.at

pub edge_number-edge_link : (n : ℕ) → edge_number (edge_link n) ≡ n
edge_number-edge_link n =
    elim (eqb n 4294967295) as (λ b. eqb n 4294967295 ≡ b → edge_number (if b then None else Some (record { at = n })) ≡ n) [
      | true ↦ λ t. sym (eqb-true n 4294967295 t)
      | false ↦ λ t. refl
    ] refl

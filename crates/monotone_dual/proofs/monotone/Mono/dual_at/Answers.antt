use Rattle.std.proofs.Common.{◌≤◌, ℕ, length, get_or, ltb, ltb-true, sym, arith, rules}
use Rattle.std.proofs.lemmas.Bool.{ltb-false}
use Rattle.std.proofs.lemmas.List.Sorted.{IsPartitionPoint-from_clause, IsPartitionedBy-ltb, IsNonDecreasingBy-from_default}
use Rattle.diagram_terms.proofs.Duals.{dual_is}
use Rattle.monotone_dual.proofs.monotone.Mono.dual_at.Goals as goal

pub returns-clause-value : goal.returns-clause-value
returns-clause-value c =
    let m = c.args.self.now in
    let within : c.partition_point.result ≤ length m.heights = rw c.as_slice.ensures at c.partition_point.ensures.bound in
    let rising = IsNonDecreasingBy-from_default (λ (h : ℕ). h) m.heights 0 m.monotone.rises in
    let parted = IsPartitionedBy-ltb (λ (h : ℕ). h) m.heights c.args.j rising in
    let point = IsPartitionPoint-from_clause (λ (h : ℕ). ltb h c.args.j) m.heights c.partition_point.result
    (rw c.as_slice.ensures at c.partition_point.ensures.partitioned) parted (λ a r q k. search rules) in
    sym (dual_is m.heights m.monotone c.args.j c.partition_point.result within
    (λ i l. ltb-true (get_or m.heights i 0) c.args.j (point.0 i 0 (omega arith) l))
    (λ l. ltb-false (get_or m.heights c.partition_point.result 0) c.args.j (point.1 c.partition_point.result 0 (omega arith) l)))

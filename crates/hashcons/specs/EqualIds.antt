-- Equality of ids.
use Rattle.std.specs.Prelude.{Bool}
use Rattle.hashcons.specs.declared.id.AnyId.{AnyId}
use Rattle.hashcons.specs.contracts.id.AnyIdPartialEq.TheImpl as any_id_impl

-- whether two ids are equal
abbrev pub id_eq : AnyId → AnyId → Bool
id_eq a b = (any_id_impl.eq-value).it a b

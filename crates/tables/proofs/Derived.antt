-- The derived `<` and `==` of records are document 01's order and sameness.
use Rattle.std.proofs.Common.{◌≡◌, rules, ◌&&◌, nat_eq}
use Rattle.std.specs.Ordering.{partial_lt}
use Rattle.tables.specs.declared.Record.{Record}
use Rattle.tables.specs.contracts.RecordPartialOrd.TheImpl.{partial_cmp-value}
use Rattle.tables.specs.Records.{record_below, same_record}

pub below-lt : (a b : Record) → partial_lt partial_cmp-value.it a b ≡ record_below a b
below-lt a b = search rules

pub same-eq : (a b : Record) → (nat_eq a.relation b.relation && (nat_eq a.first b.first && (nat_eq a.second b.second && (nat_eq a.third b.third && nat_eq a.fourth b.fourth)))) ≡ same_record a b
same-eq a b = search rules

-- What is found in tables.
use Rattle.std.proofs.Common.{◌≡◌, List, [], ◌∷◌, map, Bool, true, false, ◌||◌, if◌then◌else◌, Option, Some}
use Rattle.std.proofs.Common.{is_some, refl}
use Rattle.std.specs.Str.{bytes_eq}
use Rattle.au_syntax.specs.Plain.{Bytes}
use Rattle.au_shipped.specs.declared.prims.ShippedCall.{ShippedCall}
use Rattle.au_shipped.specs.Calls.{found, call_in, names_in}
use Rattle.au_shipped.specs.Shipped.{is_among, is_in}

chosen_known : (here : Bool) (one : ShippedCall) (other : Option ShippedCall) (others : Bool) →
    is_some other ≡ others → is_some (if here then Some one else other) ≡ (here || others)
chosen_known true one other others same = refl
chosen_known false one other others same = same

chosen_table : (here : Bool) (table : List (Bytes × ShippedCall))
    (other : Option (List (Bytes × ShippedCall))) (names : Option (List Bytes)) (call : Bytes) →
    is_some (found table call) ≡ is_among (map (λ (one : Bytes × ShippedCall). one.0) table) call →
    is_some (call_in other call) ≡ is_in names call →
    is_some (call_in (if here then Some table else other) call)
    ≡ is_in (if here then Some (map (λ (one : Bytes × ShippedCall). one.0) table) else names) call
chosen_table true table other names call same others = same
chosen_table false table other names call same others = others

-- something is found in a table exactly where the name is among its names
pub known_in : (table : List (Bytes × ShippedCall)) (name : Bytes) → is_some (found table name)
    ≡ is_among (map (λ (one : Bytes × ShippedCall). one.0) table) name
known_in [] name = refl
known_in (row ∷ table) name = chosen_known (bytes_eq row.0 name) row.1 (found table name)
    (is_among (map (λ (one : Bytes × ShippedCall). one.0) table) name) (known_in table name)

-- and so in the table of a module
pub called_in : (tables : List (Bytes × List (Bytes × ShippedCall))) (home call : Bytes) →
    is_some (call_in (found tables home) call) ≡ is_in (found (map names_in tables) home) call
called_in [] home call = refl
called_in (row ∷ tables) home call = chosen_table (bytes_eq row.0 home) row.1 (found tables home)
    (found (map names_in tables) home) call (known_in row.1 call) (called_in tables home call)

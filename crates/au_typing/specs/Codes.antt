-- The codes of variables, by which they are told apart.
use Rattle.std.specs.Prelude.{ℕ, List, Bool, refl}
use Rattle.std.specs.Coded.{Coded, code_by, coded×, coded_list, coded_ℕ, coded_bool}
use Rattle.au_instances.specs.Rows.{type_code}
use Rattle.au_typing.specs.Scopes.{Variable}
use Rattle.au_types.specs.Types.{Meaning}

abbrev pub variable_code : Coded Variable
variable_code =
    code_by (List ℕ × (Meaning × Bool)) (coded× (coded_list coded_ℕ) (coded× type_code coded_bool))
    (λ one. (one.name, (one.of, one.assignable)))
    (λ p. record { name = p.0; of = p.1.0; assignable = p.1.1 })
    (λ _. refl)

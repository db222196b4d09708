-- What something else means.
use Rattle.std.proofs.Common.{◌≡◌, ℕ, Bool, false, not, List, Option, None, Some, sym, ap, ◌∙◌}
use Rattle.std.specs.Prelude.{slice_get}
use Rattle.std.specs.Option.{option_map}
use Rattle.au_syntax.specs.Plain.{Bytes}
use Rattle.au_types.specs.declared.spaces.Space.{Space}
use Rattle.au_modules.specs.Programs.{ModuleParts}
use Rattle.au_names.specs.declared.targets.Target.{Target}
use Rattle.au_names.specs.Owned.{target}
use Rattle.au_imports.specs.Clashing.{first_offered, is_other, pervasive_target, same_target}

module _ (space : Space) (program : List ModuleParts) (m : ModuleParts)
    (name : Bytes) (t : Target) (here : slice_get program 0 ≡ Some m) where
  pervasive_is : (o : Option ℕ) → o ≡ first_offered space m name
      → is_other (pervasive_target space (slice_get program 0) name) t
      ≡ is_other (option_map (λ number. target 0 name number) o) t
  pervasive_is o h =
      ap (λ r. is_other (pervasive_target space r name) t) here
      ∙ sym (ap (λ r. is_other (option_map (λ number. target 0 name number) r) t) h)

  -- nothing is pervasive
  pub pervasive_none : None ≡ first_offered space m name
      → false ≡ is_other (pervasive_target space (slice_get program 0) name) t
  pervasive_none h = sym (pervasive_is None h)

  -- this is pervasive
  pub pervasive_some : (number : ℕ) (b : Bool) → Some number ≡ first_offered space m name
      → b ≡ not (same_target (target 0 name number) t)
      → b ≡ is_other (pervasive_target space (slice_get program 0) name) t
  pervasive_some number b h is = is ∙ sym (pervasive_is (Some number) h)

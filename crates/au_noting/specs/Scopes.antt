-- What the code's scope says, and how it changes.
use Rattle.std.specs.Prelude.{ℕ, ◌∷◌, drop}
use Rattle.au_noting.specs.declared.scopes.Scope as code
use Rattle.au_typing.specs.Scopes.{Scope, Variable}
use Rattle.au_sights.specs.Sights.{outside_seen}
use Rattle.au_syntax.specs.Plain.{Bytes}
use Rattle.au_types.specs.Views.{meaning}

-- a scope
abbrev pub scope_said : code.Scope → Scope
scope_said sc = record {
  outside = outside_seen sc.outside;
  generics = sc.bounds;
  result = meaning sc.result;
  regions = sc.regions.items;
  variables = sc.variables;
}

-- a scope with one more variable, the innermost
abbrev pub declared_in : Variable → Scope → Scope
declared_in one sc = record sc { variables = one ∷ sc.variables }

-- a scope without so many of its variables, the innermost ones
abbrev pub without : ℕ → Scope → Scope
without number sc = record sc { variables = drop number sc.variables }

-- a scope with one more region, the innermost
abbrev pub opened_in : Bytes → Scope → Scope
opened_in region sc = record sc { regions = region ∷ sc.regions }

-- a scope without its innermost region
abbrev pub closed_in : Scope → Scope
closed_in sc = record sc { regions = drop 1 sc.regions }

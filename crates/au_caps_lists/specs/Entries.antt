-- The entries of what types mention: the code's lists, in which one may stand more than once.
use Rattle.std.specs.Prelude.{ℕ, List, [], ◌∷◌, Option, slice_get, if◌then◌else◌}
use Rattle.std.specs.List.{filter_map, flat_map}
use Rattle.std.specs.Option.{option_and_then}
use Rattle.au_syntax.specs.Plain.{Bytes}
use Rattle.au_types.specs.declared.parameters.Parameter.{Parameter}
use Rattle.au_formed.specs.declared.namings.Naming.{Naming}
use Rattle.au_modules.specs.Programs.{ModuleParts}
use Rattle.au_caps_types.specs.declared.reached.Reaching.{Reaching}
use Rattle.au_caps_types.specs.Heads.{head_of, may_stand}
use Rattle.au_caps_types.specs.Views.{places}
use Rattle.au_caps_lists.specs.Mentions.{Mention, declared, generic}

module _ (program : List ModuleParts) (r : Reaching) where
  -- the head at a place, if there is one
  abbrev pub head_at : ℕ → Option Bytes
  head_at place = option_and_then (λ (n : Naming). head_of program n.of) (slice_get r.heads.items place)

  -- the heads at some places
  abbrev pub heads_at : List ℕ → List Bytes
  heads_at all = filter_map head_at all

  -- what a mention adds under these type parameters
  abbrev pub entries_in : List Parameter → Mention → List Bytes
  entries_in params (declared at) = heads_at (places r at)
  entries_in params (generic name) = if may_stand params name then name ∷ [] else []

  -- what mentions add
  abbrev pub entries : List Parameter → List Mention → List Bytes
  entries params all = flat_map (entries_in params) all

-- Which capabilities are reached from types: those that values of them may be, hold or refer to.
use Rattle.std.specs.Prelude.{◌≡◌, true, List, Contains}
use Rattle.au_syntax.specs.Plain.{Bytes}
use Rattle.au_types.specs.declared.parameters.Parameter.{Parameter}
use Rattle.au_types.specs.declared.types.DeclAt.{DeclAt}
use Rattle.au_modules.specs.Programs.{ModuleParts}
use Rattle.au_caps_types.specs.Heads.{may_stand}
use Rattle.au_caps_types.specs.Reaching.{DeclaredReaches}
use Rattle.au_caps_lists.specs.Mentions.{Mention, declared, generic}

-- What is reached where these mentions stand, under these type parameters: the heads that the declared types
-- among them reach, and each type parameter among them that may stand for a capability, by its name.
pub data Reaches (program : List ModuleParts) (params : List Parameter) (all : List Mention) : Bytes
    → Type 0 where
  a_head : (a : DeclAt) (h : Bytes) → Contains all (declared a) → DeclaredReaches program a h
      → Reaches program params all h
  a_parameter : (name : Bytes) → Contains all (generic name) → may_stand params name ≡ true
      → Reaches program params all name

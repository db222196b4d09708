-- Which files are those of a program, as the rule reads.
use Rattle.std.specs.Prelude.{◌≡◌, ◌<◌, ℕ, List, Some, None, slice_get}
use Rattle.au_syntax.specs.declared.modules.Part.TheVariants.{Interface, Body}
use Rattle.au_syntax.specs.Plain.{Bytes}
use Rattle.au_syntax.specs.Sizes.{joined}
use Rattle.au_modules.specs.Limits.{limit_in}
use Rattle.au_modules.specs.Programs.{Entry, first_shipped}

-- this file stands at this place among others
abbrev pub Stands : List Entry → ℕ → Entry → Type 0
Stands files i e = slice_get files i ≡ Some e

-- the name of the module of which a file gives a part
abbrev pub module_name : Entry → Bytes
module_name e = joined e.tree.name

-- a file of the user's
abbrev pub IsOwn : Entry → Type 0
IsOwn e = e.file < first_shipped

-- two files give parts of modules of one name
abbrev pub AreOfOne : Entry → Entry → Type 0
AreOfOne e f = module_name e ≡ module_name f

-- These files are a program.
pub record IsProgram (files : List Entry) : Type 0 where
  -- No declaration passes a limit.
  pub limits : (i : ℕ) (e : Entry) → Stands files i e → limit_in e.tree.declarations ≡ None
  -- No file of the user's has the pragma of unsafe modules.
  pub safe : (i : ℕ) (e : Entry) → Stands files i e → IsOwn e → e.tree.pragma ≡ None
  -- A file of the user's has a module's name that no file before it has, but for one of the user's that
  -- gives the other part of the module.
  pub once : (i k : ℕ) (e f : Entry) → i < k → Stands files i e → Stands files k f → IsOwn f → AreOfOne e f
      → IsOwn e × ¬ (e.tree.part ≡ f.tree.part)
  -- Each interface of the user's has a body.
  pub bodies : (i : ℕ) (e : Entry) → Stands files i e → IsOwn e → e.tree.part ≡ Interface
      → (k : ℕ) × (b : Entry) × Stands files k b × (b.tree.part ≡ Body) × AreOfOne e b

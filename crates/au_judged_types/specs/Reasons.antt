-- Why a written type isn't well formed, and what comes of judging.
use Rattle.std.specs.Prelude.{ℕ, Option, None, Some}
use Rattle.au_syntax.specs.Plain.{Bytes}
use Rattle.au_types.specs.Types.{Meaning}

-- a name that means nothing there, arguments where another number of them is wanted, something else than a
-- region where a region is wanted, a type argument that isn't Free where `Free` is wanted, and one that isn't
-- Linear where `Linear` is wanted
pub data Reason : Type 0 where
  unknown : Bytes → Reason
  number_wanted : ℕ → Reason
  region_wanted : Reason
  not_free : Meaning → Reason
  linear_wanted : Reason

-- what is meant, or the reason why it isn't well formed
pub data Outcome (A : Type 0) : Type 0 where
  means : A → Outcome A
  fails : Reason → Outcome A

-- what is made of what is meant
abbrev pub kept : {A B : Type 0} → (A → B) → Outcome A → Outcome B
kept f (means x) = means (f x)
kept f (fails why) = fails why

-- what is made of two in order: where both fail, the first one's reason counts
abbrev pub in_order : {A B C : Type 0} → (A → B → C) → Outcome A → Outcome B → Outcome C
in_order f (means x) other = kept (f x) other
in_order f (fails why) other = fails why

-- what is meant, unless there is a reason against it
abbrev pub unless : {A : Type 0} → Option Reason → A → Outcome A
unless None x = means x
unless (Some why) x = fails why

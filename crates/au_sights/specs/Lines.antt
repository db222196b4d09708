-- What the line of a refusal says of a statement that isn't well typed.
use Rattle.std.specs.Prelude.{ℕ, List, ◌++◌, codes, decimal}
use Rattle.au_sights.specs.declared.faults.Form.{Form}
use Rattle.au_sights.specs.declared.faults.Form.TheVariants as form
use Rattle.au_sights.specs.declared.faults.Why.{Why}
use Rattle.au_sights.specs.declared.faults.Why.TheVariants as why
use Rattle.au_type_texts.specs.Texts.{kind_name}

-- a form that is wanted
abbrev pub form_text : Form → List ℕ
form_text form.Record = codes "a record"
form_text form.Union = codes "a union"
form_text form.Reference = codes "a reference"
form_text form.WriteReference = codes "a write reference"
form_text form.Integer = codes "an integer"
form_text form.Assignable = codes "an assignable place"
form_text form.Linear = codes "a linear type"
form_text form.Region = codes "a region"
form_text (form.Arguments count) = decimal count ++ codes " arguments"
form_text form.Labels = codes "other labels"
form_text form.Arms = codes "other arms"
form_text (form.Range kind) = codes "a value of " ++ kind_name kind

-- what is wrong
abbrev pub why_text : Why (List ℕ) (List ℕ) → List ℕ
why_text (why.Unknown name) = codes "unknown " ++ name
why_text (why.Different wanted found) = codes "wanted " ++ wanted ++ codes ", found " ++ found
why_text (why.Unfixed name) = codes "not fixed " ++ name
why_text (why.NoInstance of_class of) = codes "no instance " ++ of_class ++ codes " for " ++ of
why_text (why.NotFree of) = codes "not free " ++ of
why_text (why.Shape wanted) = codes "wanted " ++ form_text wanted
why_text why.AfterReturn = codes "after return"
why_text why.FallsOut = codes "no return"

-- What the code's notes and faults say.
use Rattle.std.specs.Prelude.{ℕ, List}
use Rattle.std.specs.Option.{option_map}
use Rattle.au_sights.specs.declared.faults.Form as code
use Rattle.au_sights.specs.declared.faults.Form.TheVariants as form
use Rattle.au_sights.specs.declared.faults.Why as told
use Rattle.au_sights.specs.declared.faults.Why.TheVariants as why
use Rattle.au_sights.specs.declared.notes.Notes.{Notes}
use Rattle.au_type_texts.specs.Texts.{text_of}
use Rattle.au_types.specs.declared.headings.Head.{Head}
use Rattle.au_types.specs.declared.types.DeclAt.{DeclAt}
use Rattle.au_types.specs.Views.{meaning}
use Rattle.au_typing.specs.Faults as faults
use Rattle.au_typing.specs.Notes.{Note}

-- a note
abbrev pub note : Notes → Note
note n = record { mode = option_map meaning n.mode; of = meaning n.of; call = n.call }

-- a form that is wanted, as the code tells it
abbrev pub form_told : faults.Form → code.Form
form_told faults.record_wanted = form.Record
form_told faults.union_wanted = form.Union
form_told faults.reference_wanted = form.Reference
form_told faults.write_reference_wanted = form.WriteReference
form_told faults.integer_wanted = form.Integer
form_told faults.assignable_wanted = form.Assignable
form_told faults.linear_wanted = form.Linear
form_told faults.region_wanted = form.Region
form_told (faults.arguments_wanted count) = form.Arguments count
form_told faults.labels_wanted = form.Labels
form_told faults.arms_wanted = form.Arms
form_told (faults.range_wanted kind) = form.Range kind

-- Why a statement isn't well typed, as the code tells it: types by their texts over the rows of declared
-- types, and classes by the texts that they are given.
abbrev pub why_told : List (DeclAt × Head) → (DeclAt → List ℕ) → faults.Why → told.Why (List ℕ) (List ℕ)
why_told heads class_text (faults.unknown name) = why.Unknown name
why_told heads class_text (faults.different wanted found) =
    why.Different (text_of heads wanted) (text_of heads found)
why_told heads class_text (faults.unfixed name) = why.Unfixed name
why_told heads class_text (faults.no_instance class of) = why.NoInstance (class_text class) (text_of heads of)
why_told heads class_text (faults.not_free of) = why.NotFree (text_of heads of)
why_told heads class_text (faults.shape wanted) = why.Shape (form_told wanted)
why_told heads class_text faults.after_return = why.AfterReturn
why_told heads class_text faults.falls_out = why.FallsOut

-- What the code's instances say, and what calls lead to there.
use Rattle.std.specs.Prelude.{ℕ, List, Option, None, Some, map}
use Rattle.au_syntax.specs.Plain.{Bytes}
use Rattle.au_types.specs.Tables as tables
use Rattle.au_types.specs.declared.parameters.Parameter.{Parameter}
use Rattle.au_types.specs.declared.types.DeclAt.{DeclAt}
use Rattle.au_type_texts.specs.Views.{closed_meaning}
use Rattle.au_modules.specs.Slots as slots
use Rattle.au_names.specs.HeadsOf.{heads_of}
use Rattle.au_typing.specs.Notes.{Note}
use Rattle.au_type_texts.specs.Given.{Given}
use Rattle.au_type_texts.specs.GivenViews.{given_said}
use Rattle.au_closed_trees.specs.declared.notes.Literal.{Literal}
use Rattle.au_closed_trees.specs.Changes.{Change}
use Rattle.au_closed_trees.specs.ClosedNotes.{Callee, ClosedNote, constructor, instance, shipped}
use Rattle.au_closing.specs.declared.instances.Instance as found
use Rattle.au_closing.specs.declared.instances.Lead as found_lead
use Rattle.au_closing.specs.declared.instances.Lead.TheVariants as lead
use Rattle.au_closing.specs.declared.leading.Sight.{Sight}
use Rattle.au_closing.specs.Closes.{change_by}
use Rattle.au_closing.specs.Instances.{Instance, instance_of}
use Rattle.au_closing.specs.Leading.{declared_name, target_leads}

-- an instance
abbrev pub instance_said : found.Instance → Instance
instance_said one = record { of = one.of; given = given_said one.given.items }

-- instances in order
abbrev pub instances_said : List found.Instance → List Instance
instances_said all = map instance_said all

-- what a call leads to
abbrev pub lead_said : found_lead.Lead → Callee (Option Instance)
lead_said (lead.Nowhere) = instance None
lead_said (lead.To one) = instance (Some (instance_said one))
lead_said (lead.Constructor of tag) = constructor (closed_meaning of) tag
lead_said (lead.Shipped call) = shipped call

-- what a call leads to where this is seen and this is given for the type parameters
abbrev pub call_seen : Sight → Given → Note → Unit {0} → Bytes → Callee (Option Instance)
call_seen sight given note c name =
    target_leads (slots.modules sight.program.now) sight.instances.now given note
    (tables.find name sight.names.now.callables)

-- the instances that it leads to
abbrev pub leads_of : Sight → Given → Note → Unit {0} → Bytes → List Instance
leads_of sight given note c name = instance_of (call_seen sight given note c name)

-- the name of the case that the name of an arm means where this is seen, as its union declares it
abbrev pub case_seen : Sight → Bytes → Bytes
case_seen sight name = declared_name name (tables.find name sight.names.now.callables)

-- what becomes of a body where this is seen, by these instances and the literals of constants
abbrev pub change_seen : Sight → List Instance → (DeclAt → Option Literal) → List Parameter → Given →
    Change Bytes Note (Unit {0}) ClosedNote (Callee ℕ)
change_seen sight all literal_of params given =
    change_by (heads_of (slots.modules sight.program.now)) literal_of all
    (λ name. tables.find name sight.names.now.values) (call_seen sight given) (case_seen sight) params given

-- What declarations are refused for, by the tables that stand at a part of a module.
use Rattle.std.specs.Prelude.{Bool, not, ◌||◌, ◌&&◌, List, [], Option, is_some}
use Rattle.au_syntax.specs.declared.modules.Part.{Part}
use Rattle.au_syntax.specs.declared.modules.Part.TheVariants.{Interface, Body}
use Rattle.au_syntax.specs.Plain.{Bytes, PlainDeclaration}
use Rattle.au_types.specs.declared.spaces.Space.{Space}
use Rattle.au_types.specs.Tables.{has_name}
use Rattle.au_types.specs.declared.parameters.Parameter.{Parameter}
use Rattle.au_names.specs.Exporting.{in_space}
use Rattle.au_types.specs.Senses.{sense_of}
use Rattle.au_promises.specs.declared.mentions.Mention.{Mention}
use Rattle.au_promises.specs.declared.mentions.Mention.TheVariants.{Declares, Writes}
use Rattle.au_promises.specs.Mentions.{mentions, type_parameters}
use Rattle.au_imports.specs.declared.brought.Brought.{Brought}
use Rattle.au_imports.specs.declared.declaring.Site.{Site}
use Rattle.au_imports.specs.declared.name_faults.NameFault.{NameFault}
use Rattle.au_imports.specs.declared.name_faults.NameFault.TheVariants.{NotVisible, NameTwice}
use Rattle.au_imports.specs.Choices.{first_of, where_so}
use Rattle.au_imports.specs.Clashing.{is_built_in}
use Rattle.au_imports.specs.Gathered.{brought_in}

-- the imports of a part and of those before it bring a name, by their tables
abbrev pub is_brought_by : Part → Space → Brought → Brought → Bytes → Bool
is_brought_by Interface space interface body name = has_name name (brought_in space interface)
is_brought_by Body space interface body name = has_name name (brought_in space interface)
    || has_name name (brought_in space body)

-- a declaration brings in a name that means something before it
abbrev pub clashes_at : Site → Space → Bytes → Bool
clashes_at site space name =
    is_built_in space name
    || (not site.first && has_name name (in_space space site.pervasive.now))
    || is_brought_by site.part space site.interface.now site.body.now name

-- a name means nothing among types, classes and regions, in the scope of type parameters
abbrev pub means_nothing_at : Site → List Parameter → Bytes → Bool
means_nothing_at site parameters name =
    not (is_some (sense_of [] parameters site.names.now site.heads.now name))

-- a name in a declaration with these type parameters
abbrev pub mention_fault_at : Site → List Parameter → Mention → Option NameFault
mention_fault_at site parameters (Declares space name at) =
    where_so (clashes_at site space name) (NameTwice at name)
mention_fault_at site parameters (Writes name at) = where_so (means_nothing_at site parameters name)
    (NotVisible at name)

-- a declaration
abbrev pub declaration_fault_at : Site → PlainDeclaration → Option NameFault
declaration_fault_at site d = first_of (mention_fault_at site (type_parameters d)) (mentions d)

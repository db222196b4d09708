-- A part is refused for nothing exactly where its imports have their sources, what is written in it means
-- something, and nothing that is brought or declared clashes.
use Rattle.std.proofs.Common.{◌≡◌, ℕ, false, List, Option, Some, None, refl}
use Rattle.au_base.specs.declared.places.Pos.{Pos}
use Rattle.au_base.proofs.OptionLemmas.{or_first, or_second, or_neither}
use Rattle.au_syntax.specs.declared.modules.Part.{Part}
use Rattle.au_syntax.specs.Modules.{Importing}
use Rattle.au_syntax.specs.Plain.{Bytes, PlainDeclaration}
use Rattle.au_types.specs.declared.spaces.Space.{Space}
use Rattle.au_types.specs.DeclaredNames.{declared_names}
use Rattle.au_modules.specs.Programs.{Entry, ModuleParts}
use Rattle.au_names.specs.Meanings.{imports_in, part_of}
use Rattle.au_names.specs.Owned.{declarations_in}
use Rattle.au_promises.specs.declared.mentions.Mention.{Mention}
use Rattle.au_promises.specs.declared.mentions.Mention.TheVariants.{Declares, Writes}
use Rattle.au_promises.specs.Mentions.{mentions, type_parameters}
use Rattle.au_imports.specs.declared.name_faults.NameFault.TheVariants.{NotVisible, NameTwice}
use Rattle.au_imports.specs.Choices.{first_of}
use Rattle.au_imports.specs.Clashing.{declaration_clashes}
use Rattle.au_imports.specs.NameFaults.{
  import_fault,
  means_nothing,
  mention_fault,
  declaration_fault,
  file_fault,
  part_fault,
}
use Rattle.au_imports.specs.Good.{IsSourced}
use Rattle.au_names.proofs.AmongLemmas.{Among, contains}
use Rattle.au_imports.proofs.ChoiceLemmas.{first_from, first_to, so_from, so_to}
use Rattle.au_imports.proofs.MentionLemmas.{declared_of_mention, mention_of_declared}
use Rattle.au_imports.proofs.SourceLemmas.{IsBrought, brought_item, item_brings}
use Rattle.au_imports.proofs.ItemLemmas.{AreAlone, ItemsPass, import_from, import_to, item_alone, item_to}

module _ (program : List ModuleParts) (place : ℕ) (m : ModuleParts) (part : Part) where
  pub record IsFree : Type 0 where
    pub sources : (i : Importing Bytes) → Among i (imports_in (part_of part m)) → IsSourced program place i
    pub written : (d : PlainDeclaration) (name : Bytes) (at : Pos)
        → Among d (declarations_in (part_of part m)) → Among (Writes name at) (mentions d)
        → means_nothing program place m part (type_parameters d) name ≡ false
    pub imports : AreAlone program place m part
    pub declared : (d : PlainDeclaration) (space : Space) (name : Bytes)
        → Among d (declarations_in (part_of part m)) → Among name (declared_names space d)
        → declaration_clashes program place m part space name ≡ false

  -- ---- a file

  -- no import and no declaration of a file is refused
  FilePasses : Option Entry → Type 0
  FilePasses o =
      ((i : Importing Bytes) → Among i (imports_in o) → import_fault program place m part i ≡ None)
      × ((d : PlainDeclaration) → Among d (declarations_in o) → declaration_fault program place m part d
      ≡ None)

  file_from : (o : Option Entry) → file_fault program place m part o ≡ None → FilePasses o
  unfolding FilePasses
  file_from None h = ((λ i n. absurd n), (λ d n. absurd n))
  file_from (Some e) h =
      let imports = first_of (import_fault program place m part) e.tree.imports in
      let declarations = first_of (declaration_fault program place m part) e.tree.declarations in (
        first_from (import_fault program place m part) e.tree.imports (or_first imports declarations h),
        first_from (declaration_fault program place m part) e.tree.declarations
            (or_second imports declarations h),
      )

  file_to : (o : Option Entry) → FilePasses o → file_fault program place m part o ≡ None
  unfolding FilePasses
  file_to None h = refl
  file_to (Some e) h =
      let imports = first_of (import_fault program place m part) e.tree.imports in
      let declarations = first_of (declaration_fault program place m part) e.tree.declarations in
      or_neither imports declarations
      (first_to (import_fault program place m part) e.tree.imports h.0)
      (first_to (declaration_fault program place m part) e.tree.declarations h.1)

  -- ---- a part

  pub free_from : part_fault program place m part ≡ None → IsFree
  unfolding FilePasses
  free_from h = record { sources = sources; written = written; imports = alone; declared = declared }
    where
      passes : FilePasses (part_of part m)
      passes = file_from (part_of part m) h

      found : (i : Importing Bytes) → Among i (imports_in (part_of part m))
          → (s : IsSourced program place i) × ItemsPass program place m part i s
      found i one = import_from program place m part i (passes.0 i one)

      sources : (i : Importing Bytes) → Among i (imports_in (part_of part m)) → IsSourced program place i
      sources i one = (found i one).0

      mention : (d : PlainDeclaration) (x : Mention) → Among d (declarations_in (part_of part m))
          → Among x (mentions d) → mention_fault program place m part (type_parameters d) x ≡ None
      mention d x one two = first_from (mention_fault program place m part (type_parameters d))
          (mentions d) (passes.1 d one) x two

      written : (d : PlainDeclaration) (name : Bytes) (at : Pos) → Among d (declarations_in (part_of part m))
          → Among (Writes name at) (mentions d)
          → means_nothing program place m part (type_parameters d) name ≡ false
      written d name at one two = so_from (means_nothing program place m part (type_parameters d) name)
          (NotVisible at name) (mention d (Writes name at) one two)

      alone : AreAlone program place m part
      alone space p n =
          let b : IsBrought program place m part sources space p =
          brought_item program place m part sources space p n in
          item_alone program place m part (sources b.0 b.1).0 (sources b.0 b.1).1 b.2
          ((found b.0 b.1).1 b.2 b.3) space p b.4

      declared : (d : PlainDeclaration) (space : Space) (name : Bytes)
          → Among d (declarations_in (part_of part m)) → Among name (declared_names space d)
          → declaration_clashes program place m part space name ≡ false
      declared d space name one two =
          let there = mention_of_declared d space name two in
          so_from (declaration_clashes program place m part space name) (NameTwice there.0 name)
          (mention d (Declares space name there.0) one there.1)

  pub free_to : IsFree → part_fault program place m part ≡ None
  unfolding FilePasses
  free_to free = file_to (part_of part m) (imports, declarations)
    where
      imports : (i : Importing Bytes) → Among i (imports_in (part_of part m))
          → import_fault program place m part i ≡ None
      imports i one =
          let s : IsSourced program place i = free.sources i one in
          import_to program place m part i s
          (λ item two. item_to program place m part s.0 s.1 free.imports item
          (s.5 item (contains i.items item two))
          (λ space p n. item_brings program place m part space i s item p one two n))

      mention : (d : PlainDeclaration) → Among d (declarations_in (part_of part m))
          → (x : Mention) → Among x (mentions d) → mention_fault program place m part (type_parameters d) x
          ≡ None
      mention d one (Declares space name at) two =
          so_to (declaration_clashes program place m part space name) (NameTwice at name)
          (free.declared d space name one (declared_of_mention d space name at two))
      mention d one (Writes name at) two =
          so_to (means_nothing program place m part (type_parameters d) name) (NotVisible at name)
          (free.written d name at one two)

      declarations : (d : PlainDeclaration) → Among d (declarations_in (part_of part m))
          → declaration_fault program place m part d ≡ None
      declarations d one = first_to (mention_fault program place m part (type_parameters d))
          (mentions d) (mention d one)

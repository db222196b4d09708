-- The code of programs whose files were read has plain names.
use Rattle.std.proofs.Common.{◌≡◌, ℕ, suc, ◌+◌, List, [], ◌∷◌, map, find, Option, None, Some}
use Rattle.std.proofs.Common.{length, refl, sym, ap, subst}
use Rattle.std.specs.Prelude.{slice_get}
use Rattle.std.specs.List.{AllByRecursion}
use Rattle.std.specs.Option.{option_map}
use Rattle.std.proofs.lemmas.List.Sorted.{Contains-permutation, IsPermutation-sym}
use Rattle.std.proofs.lemmas.Option.{none-some, same_Some}
use Rattle.au_syntax.specs.Plain.{Bytes}
use Rattle.au_modules.specs.Programs.{Entry, ModuleParts}
use Rattle.au_names.proofs.AmongLemmas.{among, contains}
use Rattle.au_type_texts.specs.Same.{same}
use Rattle.au_type_texts.specs.Types.{ClosedType, unit, truth, integer, text, named, reads, writes}
use Rattle.au_typing.specs.Trees.{NotedParts}
use Rattle.au_closed_trees.specs.ClosedNotes.{Callee, ClosedNote, constructor, instance, shipped}
use Rattle.au_closing.specs.Bodies.{BodyOf, body_of}
use Rattle.au_closing.specs.Closes.{ClosedFunction, ClosesFunctions, body_closed, instance_closed}
use Rattle.au_closing.specs.Instances.{Instance}
use Rattle.au_closing.specs.Leading.{module_name}
use Rattle.au_closed_programs.specs.Programs.{ClosedProgram, Closes, ClosesTypes, TypeRow, home_of, row_of}
use Rattle.au_meaning.specs.Names.{with_parameters}
use Rattle.au_meaning.specs.Views as views
use Rattle.au_meaning.specs.Views.{invokes, makes, ships}
use Rattle.au_closed_meanings.specs.Programs.{Body, Row, closed_view, function_seen, functions_by}
use Rattle.au_closed_meanings.specs.Shipped.{born, shipped_parameters}
use Rattle.au_closed_meanings.specs.Surroundings as round
use Rattle.au_closed_meanings.specs.Surroundings.{field_names}
use Rattle.au_low.specs.declared.code.Code.{Code}
use Rattle.au_lowered.specs.Drafts.{Draft, plain, pushes_text, makes_case, ships_birth}
use Rattle.au_lowered.specs.Programs.{function_code, numbered, texts_in, types_in}
use Rattle.au_lowered.specs.Programs as lowered
use Rattle.au_lowering.specs.Closed.{body_seen, code_of, functions_of, row_seen, told_by, told_in}
use Rattle.au_accepted.specs.Programs.{entries, program_files, program_modules, shipped_entries}
use Rattle.au_accepted.specs.Trees.{AreRead, ReadFile}
use Rattle.au_told.specs.Names.{HasPlainNames, IsPlain, IsPlainFunction, IsPlainInstruction, IsPlainType}
use Rattle.au_told.specs.Programs.{IsAcceptedCode}
use Rattle.au_told.proofs.DraftLemmas.{ArePlain, IsPlainAct, IsPlainDraft, block_plain}
use Rattle.au_told.proofs.FileLemmas.{IsNamed}
use Rattle.au_told.proofs.ModuleLemmas.{AreNamed, AreNamedModules, IsNamedModule, home_plain, modules_named}
use Rattle.au_told.proofs.ModuleLemmas.{type_plain}
use Rattle.au_told.proofs.PlainLemmas.{all_among, all_at, all_before, all_both, all_each, all_found, all_got}
use Rattle.au_told.proofs.PlainLemmas.{all_mapped}
use Rattle.au_told.proofs.TokenLemmas.{read_plain}

-- ---- files

shipped_read : AreNamed shipped_entries
unfolding shipped_entries
shipped_read = (
  record { home = refl; types = refl },
  (
    record { home = refl; types = refl },
    (record { home = refl; types = refl }, (record { home = refl; types = refl }, tt)),
  ),
)

entries_read : (file : ℕ) (all : List (List ℕ)) (reads : List ReadFile) → AreRead file all reads
    → AreNamed (entries file reads)
unfolding entries
entries_read file [] [] h = tt
entries_read file (bytes ∷ others) (one ∷ rest) h =
    (read_plain one.tree file bytes one.tokens h.0.cut h.0.spelled, entries_read (file + 1) others rest h.1)
entries_read file [] (one ∷ rest) h = absurd h
entries_read file (bytes ∷ others) [] h = absurd h

program_named : (all : List (List ℕ)) (files : List ReadFile) → AreRead 0 all files
    → AreNamedModules (program_modules files)
program_named all files h =
    modules_named (program_files files)
    (all_both (λ (e : Entry). IsNamed e.tree) shipped_entries (entries 0 files) shipped_read
    (entries_read 0 all files h))

-- ---- the types of a closed program, and its functions

abbrev pub IsPlainRow : TypeRow → Type 0
IsPlainRow row = IsPlain row.text × IsPlain row.home

abbrev IsPlainHome : Option ClosedFunction → Type 0
IsPlainHome None = Unit {0}
IsPlainHome (Some f) = IsPlain f.home

module _ (program : List ModuleParts) (are : AreNamedModules program) where
  home_named : (place : ℕ) → IsPlain (module_name program place)
  home_named place = home_plain (slice_get program place) (all_got IsNamedModule program are place)

  of_home : (t : ClosedType) → IsPlain (home_of program t)
  of_home (named at args) = home_named at.«module»
  of_home unit = refl
  of_home truth = refl
  of_home (integer kind) = refl
  of_home text = refl
  of_home (reads to) = refl
  of_home (writes to) = refl

  row_plain : (t : ClosedType) → IsPlainRow (row_of program t)
  row_plain t = (type_plain program are t, of_home t)

  rows_plain : (functions : List ClosedFunction) (rows : List TypeRow) → ClosesTypes program functions rows
      → AllByRecursion IsPlainRow rows
  rows_plain functions rows is =
      let theirs = map (row_of program) is.reached in
      all_among IsPlainRow rows (λ row m.
      all_at IsPlainRow theirs
      (all_mapped IsPlainRow (row_of program) is.reached
      (all_each (λ t. IsPlainRow (row_of program t)) row_plain is.reached))
      row
      (among theirs row
      (Contains-permutation rows theirs row (IsPermutation-sym theirs rows is.are_theirs)
      (contains rows row m))))

  module _ (noted : List NotedParts) where
    instance_plain : (all : List Instance) (one : Instance) → IsPlainHome
        (instance_closed program noted all one)
    instance_plain all one = by (body_of program noted one.of)
      where
        by : (o : Option BodyOf) → IsPlainHome (option_map (body_closed program noted all one.given) o)
        by None = tt
        by (Some body) = home_named body.place

    functions_plain : (entry : Instance) (functions : List ClosedFunction)
        → ClosesFunctions program noted entry functions
        → AllByRecursion (λ (f : ClosedFunction). IsPlain f.home) functions
    functions_plain entry functions is =
        all_before IsPlainHome Some functions
        (subst (AllByRecursion IsPlainHome) (sym is.closed)
        (all_mapped IsPlainHome (instance_closed program noted is.instances) is.instances
        (all_each (λ one. IsPlainHome (instance_closed program noted is.instances one))
        (instance_plain is.instances) is.instances)))

-- ---- code

told_plain : (rows : List TypeRow) → AllByRecursion IsPlainRow rows → (of : ClosedType)
    → IsPlainType (told_in rows of)
told_plain rows h of =
    by (find (λ (row : TypeRow). same row.of of) rows)
    (all_found IsPlainRow (λ (row : TypeRow). same row.of of) rows h)
  where
    by : (o : Option TypeRow) → ((row : TypeRow) → o ≡ Some row → IsPlainRow row) → IsPlainType (told_by o)
    by None k = (refl, refl)
    by (Some row) k = k row refl

numbered_plain : (texts : List Bytes) (types : List ClosedType) (d : Draft) → IsPlainDraft d
    → IsPlainInstruction (numbered texts types d)
numbered_plain texts types (plain one) h = h
numbered_plain texts types (pushes_text bytes) h = tt
numbered_plain texts types (makes_case of tag order home) h = h
numbered_plain texts types (ships_birth one of order) h = tt

all_numbered : (texts : List Bytes) (types : List ClosedType) (ds : List Draft) → ArePlain ds
    → AllByRecursion (λ d. IsPlainInstruction (numbered texts types d)) ds
all_numbered texts types [] h = tt
all_numbered texts types (d ∷ ds) h = (numbered_plain texts types d h.0, all_numbered texts types ds h.1)

same_act : (names : Option (List Bytes)) (act : views.Act ℕ) (one : views.Callee ℕ)
    → round.with_parameters names act ≡ Some one → act ≡ one.act
same_act None act one e = absurd (none-some one e)
same_act (Some names) act one e =
    ap (λ (c : views.Callee ℕ). c.act) (same_Some (record { parameters = names; act = act }) one e)

module _ (all : List Body) (rows : List Row) where
  callee_plain : (home : Bytes) → IsPlain home → (note : ClosedNote) (c : Callee ℕ) (name : Bytes)
      (one : views.Callee ℕ) → (closed_view all rows home).callee note c name ≡ Some one → IsPlainAct one.act
  callee_plain home h note (instance number) name one e =
      subst IsPlainAct (same_act (option_map (λ (f : Body). field_names f.parameters) (slice_get all number))
      (invokes number) one e) tt
  callee_plain home h note (constructor of tag) name one e =
      subst IsPlainAct
      (same_act (option_map field_names ((closed_view all rows home).fields of tag))
      (makes of tag home) one e) h
  callee_plain home h note (shipped prim) name one e =
      subst IsPlainAct (same_act (Some (shipped_parameters prim)) (ships prim (born prim note.of)) one e) tt

  function_plain : (texts : List Bytes) (types : List ClosedType) (numbers : ℕ → ℕ) (bodies : List Body)
      → AllByRecursion (λ (f : Body). IsPlain f.home) bodies
      → AllByRecursion IsPlainFunction
      (map (function_code texts types) (functions_by all rows numbers bodies))
  function_plain texts types numbers [] h = tt
  function_plain texts types numbers (f ∷ rest) h =
      let g = function_seen all rows (numbers 0) f in (
        all_mapped IsPlainInstruction (numbered texts types) (lowered.body_of g)
            (all_numbered texts types (lowered.body_of g)
            (block_plain g.view (callee_plain f.home h.0) 0 (length g.parameters)
            (with_parameters 0 g.parameters []) g.body 0)),
        function_plain texts types (λ n. numbers (suc n)) rest h.1,
      )

-- a program of modules with plain names
code_plain : (program : List ModuleParts) → AreNamedModules program → (noted : List NotedParts)
    (owner name : Bytes) (c : ClosedProgram) → Closes program noted owner name c → HasPlainNames (code_of c)
code_plain program are noted owner name c closes =
    let rows = rows_plain program are c.functions c.types closes.types in
    let seen = functions_of c in
    let bodies = map body_seen c.functions in
    record {
      types = all_mapped IsPlainType (told_in c.types) (types_in seen)
          (all_each (λ of. IsPlainType (told_in c.types of)) (told_plain c.types rows) (types_in seen));
      functions = function_plain bodies (map row_seen c.types) (texts_in seen) (types_in seen) (λ n. 0) bodies
          (all_mapped (λ (f : Body). IsPlain f.home) body_seen c.functions
          (functions_plain program are noted _ c.functions closes.functions));
    }

-- files that were read
pub read_code_plain : (all : List (List ℕ)) (files : List ReadFile) → AreRead 0 all files
    → (noted : List NotedParts) (owner name : Bytes) (c : ClosedProgram)
    → Closes (program_modules files) noted owner name c → HasPlainNames (code_of c)
read_code_plain all files read noted owner name c closes =
    code_plain (program_modules files) (program_named all files read) noted owner name c closes

-- accepted files
pub accepted_plain : (code : Code) → IsAcceptedCode code → HasPlainNames code
accepted_plain code it =
    subst HasPlainNames (sym it.is)
    (read_code_plain it.all it.reads it.accepted.read it.noted it.owner it.name it.c it.closes)

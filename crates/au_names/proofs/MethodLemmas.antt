-- What the tables of the methods of classes answer.
use Rattle.std.proofs.Common.{◌≡◌, ℕ, suc, ◌+◌, ◌<◌, ◌≤◌, ◌⊎◌, inl, inr, Bool, true, false, cond, List, []}
use Rattle.std.proofs.Common.{◌∷◌, ◌++◌, length, map, find, drop, get_or, Option, None, Some, is_some, Vec}
use Rattle.std.proofs.Common.{refl, sym, ap, ◌∙◌, arith, append_assoc, true≢false}
use Rattle.std.specs.Prelude.{slice_get}
use Rattle.std.specs.Borrow.{Bor}
use Rattle.std.specs.Global.{Global}
use Rattle.std.specs.Option.{option_map, IfSome}
use Rattle.std.specs.Str.{bytes_eq}
use lib.Dec.{ltb}
use Rattle.std.proofs.lemmas.Bool.{lt-ltb, le-ltb, cases_lt}
use Rattle.std.proofs.lemmas.List.{append-nil, drop_all, drop_more, length-map, map-append, map_push}
use Rattle.std.proofs.lemmas.Option.{none-some, same_Some, slice_get-map, slice_get-get_or, slice_get_past}
use Rattle.std.proofs.lemmas.Option.{slice_get_read}
use Rattle.au_base.specs.declared.places.Pos.{Pos}
use Rattle.au_syntax.specs.contracts.parsed.ParsedPhase.TheImpl.{ghosts as parsed}
use Rattle.au_syntax.specs.declared.declarations.Decl.{Decl}
use Rattle.au_syntax.specs.declared.declarations.Decl.TheVariants as code
use Rattle.au_syntax.specs.declared.declarations.Signature.{Signature}
use Rattle.au_syntax.specs.declared.declarations.TypeParameter.{TypeParameter}
use Rattle.au_syntax.specs.declared.modules.Part.{Part}
use Rattle.au_syntax.specs.declared.modules.Part.TheVariants.{Interface, Body}
use Rattle.au_syntax.specs.declared.names.Ident.{Ident}
use Rattle.au_syntax.specs.declared.parsed.Parsed.{Parsed}
use Rattle.au_syntax.specs.Modules.{Header}
use Rattle.au_syntax.specs.Plain.{Bytes, PlainDeclaration, PlainModule, plain_header}
use Rattle.au_syntax.specs.Views.{declaration, header}
use Rattle.au_types.specs.declared.types.DeclAt.{DeclAt}
use Rattle.au_types.specs.Tables as tables
use Rattle.au_types.specs.Tables.{with_all, with_pair}
use Rattle.au_types.proofs.TableLemmas.{with_all-firsts, with_all-none, find-firsts}
use Rattle.au_modules.specs.Programs.{ModuleParts}
use Rattle.au_modules.specs.Seen.{body_tree, interface_tree}
use Rattle.au_names.specs.Exporting.{declarations_seen}
use Rattle.au_names.specs.Methods.{held, is_method, method_of, methods_by_number, methods_from, methods_in}
use Rattle.au_names.specs.Methods.{methods_of, methods_there, table_there, written_methods}
use Rattle.au_names.specs.Owned.{declarations_in}
use Rattle.au_names.specs.Standing.{Standing, module_standing, standing_at, standing_from, standing_in}
use Rattle.au_names.specs.Walks.{written, written_all}
use Rattle.au_names.proofs.ExportLemmas.{body_seen, interface_seen, mapped_step, nothing}
use Rattle.au_names.proofs.PutLemmas.{with_all-cons}
use Rattle.au_names.proofs.StandingLemmas.{Written}

abbrev of : (Type 0 → Type 0 → Type 0 → Type 0 → Type 0) → Type 0
of kind = kind Parsed Bytes (Unit {0}) (Unit {0})

-- what is no class has no methods
pub no_methods : (d : of Decl)
    → ((at : Pos) (n : of Ident) (p : of TypeParameter) (ms : Vec (of Signature) Global)
    → d ≡ code.Class at n p ms → ⊥)
    → [] ≡ methods_in (written d)
unfolding declaration
no_methods (code.Class at n p ms) class = absurd (class at n p ms refl)
no_methods d class = refl

-- ---- the table of one class is made

-- one more method has its index
pub methods_step : (xs : List (of Signature)) (i : ℕ) (x : of Signature) (name : Bytes)
    (before after goal : List (Bytes × ℕ))
    → i < length xs → x ≡ get_or xs i x → name ≡ (method_of x).name.name
    → with_all before (methods_from i (written_methods (drop i xs))) ≡ goal
    → after ≡ with_pair before name i
    → with_all after (methods_from (i + 1) (written_methods (drop (i + 1) xs))) ≡ goal
unfolding methods_from
methods_step xs i x name before after goal within is same old new =
    let rest = methods_from (i + 1) (written_methods (drop (i + 1) xs)) in
    ap (λ t. with_all t rest) (new ∙ ap (λ n. with_pair before n i) same)
    ∙ sym (with_all-cons before (method_of x).name.name i rest)
    ∙ ap (λ y. with_all before (((method_of y).name.name, i) ∷ rest)) is
    ∙ ap (λ r. with_all before (methods_from i (written_methods r))) (sym (drop_more xs i x within))
    ∙ old

-- all have theirs
pub methods_end : (xs : List (of Signature)) (i : ℕ) (table goal : List (Bytes × ℕ)) → length xs ≤ i
    → with_all table (methods_from i (written_methods (drop i xs))) ≡ goal → table ≡ goal
unfolding methods_from
methods_end xs i table goal past h =
    sym
    (ap (λ r. with_all table (methods_from i (written_methods r))) (drop_all i xs past)
    ∙ with_all-none table)
    ∙ h

-- nothing is put
pub methods_none : (table : List (Bytes × ℕ)) (methods : List (Header Bytes)) → [] ≡ methods
    → table ≡ with_all table (methods_from 0 methods)
unfolding methods_from
methods_none table methods h =
    sym (with_all-none table) ∙ ap (λ hs. with_all table (methods_from 0 hs)) h

-- ---- those of the declarations of a module

-- one more declaration has its table
pub tables_step : (xs : List Written) (i : ℕ) (x : Written) (made after : List (List (Bytes × ℕ)))
    (table : List (Bytes × ℕ)) (goal : List (List (Bytes × ℕ)))
    → i < length xs → x ≡ get_or xs i x → table ≡ methods_of (written x)
    → made ++ map methods_of (written_all (drop i xs)) ≡ goal → after ≡ made ++ table ∷ []
    → after ++ map methods_of (written_all (drop (i + 1) xs)) ≡ goal
tables_step xs i x made after table goal within is same old new =
    let rest = map methods_of (written_all (drop (i + 1) xs)) in
    ap (λ r. r ++ rest) new
    ∙ append_assoc made (table ∷ []) rest
    ∙ ap (λ t. made ++ t ∷ rest) (same ∙ ap (λ y. methods_of (written y)) is)
    ∙ ap (λ r. made ++ map methods_of (written_all r)) (sym (drop_more xs i x within))
    ∙ old

-- all have theirs
pub tables_end : (xs : List Written) (i : ℕ) (made goal : List (List (Bytes × ℕ))) → length xs ≤ i
    → made ++ map methods_of (written_all (drop i xs)) ≡ goal → made ≡ goal
tables_end xs i made goal past h =
    sym (ap (λ r. made ++ map methods_of (written_all r)) (drop_all i xs past) ∙ append-nil made) ∙ h

-- those of the parts of which these declarations are seen
pub both_seen : (program : List ModuleParts) (place : ℕ) (interface body : Option PlainModule)
    → place < length program → interface ≡ interface_tree (slice_get program place)
    → body ≡ body_tree (slice_get program place)
    → option_map methods_by_number (slice_get program place)
    ≡ Some (map methods_of (declarations_seen interface) ++ map methods_of (declarations_seen body))
both_seen program place interface body within first second = by (slice_get program place) refl first second
  where
    by : (o : Option ModuleParts) → slice_get program place ≡ o → interface ≡ interface_tree o
        → body ≡ body_tree o
        → option_map methods_by_number o
        ≡ Some (map methods_of (declarations_seen interface) ++ map methods_of (declarations_seen body))
    by None e h k =
        absurd
        (none-some (get_or program place nothing) (sym e ∙ slice_get-get_or program place nothing within))
    by (Some m) e h k =
        ap (λ ds. Some (map methods_of ds ++ map methods_of (declarations_in m.body)))
        (interface_seen m ∙ ap declarations_seen (sym h))
        ∙ ap (λ ds. Some (map methods_of (declarations_seen interface) ++ map methods_of ds))
        (body_seen m ∙ ap declarations_seen (sym k))

-- ---- those of the modules of a program

-- one more module has its tables
pub places_step : (program : List ModuleParts) (place : ℕ) (made after : List (Vec (List (Bytes × ℕ)) Global))
    (all : Vec (List (Bytes × ℕ)) Global)
    → map held made ++ map methods_by_number (drop place program) ≡ map methods_by_number program
    → option_map methods_by_number (slice_get program place) ≡ Some all.items → after ≡ made ++ all ∷ []
    → map held after ++ map methods_by_number (drop (place + 1) program) ≡ map methods_by_number program
places_step program place made after all old here new =
    ap (λ r. r ++ map methods_by_number (drop (place + 1) program))
    (ap (map held) new ∙ map_push held made all)
    ∙ mapped_step methods_by_number (map held made) program place all.items old here

-- ---- what is found

-- the tables are those of what stands in the module
part_said : (place first : ℕ) (part : Part) (ds : List PlainDeclaration)
    → map (λ (s : Standing). methods_of s.says) (standing_from place part first ds) ≡ map methods_of ds
unfolding standing_from
part_said place first part [] = refl
part_said place first part (d ∷ ds) = ap (λ r. methods_of d ∷ r) (part_said place (first + 1) part ds)

module_said : (place : ℕ) (m : ModuleParts)
    → map (λ (s : Standing). methods_of s.says) (module_standing place m) ≡ methods_by_number m
module_said place m =
    map-append (λ (s : Standing). methods_of s.says)
    (standing_from place Interface 0 (declarations_in m.interface))
    (standing_from place Body 0 (declarations_in m.body))
    ∙ ap
    (λ r. r ++ map (λ (s : Standing). methods_of s.says)
    (standing_from place Body 0 (declarations_in m.body)))
    (part_said place 0 Interface (declarations_in m.interface))
    ∙ ap (λ r. map methods_of (declarations_in m.interface) ++ r)
    (part_said place 0 Body (declarations_in m.body))

number_there : (place number : ℕ) (m : ModuleParts)
    → table_there (slice_get (methods_by_number m) number)
    ≡ methods_there (standing_in place number (Some m))
number_there place number m =
    ap (λ r. table_there (slice_get r number)) (sym (module_said place m))
    ∙ ap table_there (slice_get-map (λ (s : Standing). methods_of s.says) (module_standing place m) number)
    ∙ by (slice_get (module_standing place m) number)
  where
    by : (o : Option Standing) → table_there (option_map (λ (s : Standing). methods_of s.says) o)
        ≡ methods_there o
    by None = refl
    by (Some s) = refl

-- the table of a number is that of the declaration with it
pub index_there : (program : List ModuleParts) (made : List (Vec (List (Bytes × ℕ)) Global)) (at : DeclAt)
    (all : Vec (List (Bytes × ℕ)) Global)
    → map held made ≡ map methods_by_number program → at.«module» < length made
    → all ≡ get_or made at.«module» all
    → table_there (slice_get all.items at.decl) ≡ methods_there (standing_at program at)
index_there program made at all are within is =
    by (slice_get program at.«module»)
    (sym (slice_get-map methods_by_number program at.«module»)
    ∙ ap (λ r. slice_get r at.«module») (sym are)
    ∙ slice_get-map held made at.«module»
    ∙ ap (option_map held) (slice_get_read made (length made) at.«module» all refl within is))
  where
    by : (o : Option ModuleParts) → option_map methods_by_number o ≡ Some all.items
        → table_there (slice_get all.items at.decl) ≡ methods_there (standing_in at.«module» at.decl o)
    by None e = absurd (none-some all.items e)
    by (Some m) e =
        ap (λ r. table_there (slice_get r at.decl)) (sym (same_Some (methods_by_number m) all.items e))
        ∙ number_there at.«module» at.decl m

-- there is no declaration where there is no module
pub index_past : (program : List ModuleParts) (made : List (Vec (List (Bytes × ℕ)) Global)) (at : DeclAt)
    (name : Bytes)
    → map held made ≡ map methods_by_number program → length made ≤ at.«module»
    → None ≡ tables.find name (methods_there (standing_at program at))
index_past program made at name are past =
    let first = length-map made held in
    let count = ap length are in
    let second = length-map program methods_by_number in
    let over : length program ≤ at.«module» = omega (arith, past, first, count, second) in
    sym
    (ap (λ o. tables.find name (methods_there (standing_in at.«module» at.decl o)))
    (slice_get_past program at.«module» over))

-- a name that is found has the index of the first method of that name
found_from : (name : Bytes) (first : ℕ) (hs : List (Header Bytes)) (index : ℕ)
    → Some index ≡ tables.find name (methods_from first hs)
    → (k : ℕ) × (index ≡ first + k) × (slice_get hs k ≡ find (is_method name) hs)
unfolding methods_from
found_from name first [] index h = absurd (none-some index (sym h))
found_from name first (x ∷ hs) index h =
    by (bytes_eq name x.name.name) h (found_from name (first + 1) hs index)
  where
    by : (b : Bool) → Some index ≡ cond b (Some first) (tables.find name (methods_from (first + 1) hs))
        → (Some index ≡ tables.find name (methods_from (first + 1) hs)
        → (k : ℕ) × (index ≡ first + 1 + k) × (slice_get hs k ≡ find (is_method name) hs))
        → (k : ℕ) × (index ≡ first + k)
        × (slice_get (x ∷ hs) k ≡ cond b (Some x) (find (is_method name) hs))
    by true e on = let same = same_Some index first e in (0, omega (arith, same), refl)
    by false e on =
        let r = on e in
        let same = r.1 in
        (suc r.0, omega (arith, same), r.2)

pub method_there : (name : Bytes) (d : PlainDeclaration) (index : ℕ)
    → Some index ≡ tables.find name (methods_of d)
    → slice_get (methods_in d) index ≡ find (is_method name) (methods_in d)
method_there name d index h =
    let pairs = methods_from 0 (methods_in d) in
    let r = found_from name 0 (methods_in d) index
    (h ∙ ap (tables.find name) (with_all-firsts pairs) ∙ find-firsts name pairs) in
    let same = r.1 in
    let at : index ≡ r.0 = omega (arith, same) in
    ap (slice_get (methods_in d)) at ∙ r.2

-- where none is found there is none
missing_from : (name : Bytes) (first : ℕ) (hs : List (Header Bytes))
    → None ≡ tables.find name (methods_from first hs) → None ≡ find (is_method name) hs
unfolding methods_from
missing_from name first [] h = refl
missing_from name first (x ∷ hs) h = by (bytes_eq name x.name.name) h (missing_from name (first + 1) hs)
  where
    by : (b : Bool) → None ≡ cond b (Some first) (tables.find name (methods_from (first + 1) hs))
        → (None ≡ tables.find name (methods_from (first + 1) hs) → None ≡ find (is_method name) hs)
        → None ≡ cond b (Some x) (find (is_method name) hs)
    by true e on = absurd (none-some first e)
    by false e on = on e

pub method_missing : (name : Bytes) (d : PlainDeclaration) → None ≡ tables.find name (methods_of d)
    → None ≡ find (is_method name) (methods_in d)
method_missing name d h =
    let pairs = methods_from 0 (methods_in d) in
    missing_from name 0 (methods_in d)
    (h ∙ ap (tables.find name) (with_all-firsts pairs) ∙ find-firsts name pairs)

-- the method of an index, as it is seen
pub method_got : (xs : List (of Signature)) (i : ℕ) (r : Option (Bor (of Signature)))
    → is_some r ≡ ltb i (length xs) → IfSome r (λ b. b.now ≡ get_or xs i b.now)
    → option_map (λ b. method_of b.now) r ≡ slice_get (written_methods xs) i
method_got xs i r has is =
    by r (cases_lt i (length xs)) has is
    ∙ sym
    (slice_get-map (plain_header parsed.name_bytes) (map (header parsed) xs) i
    ∙ ap (option_map (plain_header parsed.name_bytes)) (slice_get-map (header parsed) xs i))
  where
    seen : Option (of Signature) → Option (Header Bytes)
    seen o = option_map (plain_header parsed.name_bytes) (option_map (header parsed) o)

    by : (r : Option (Bor (of Signature))) → (i < length xs) ⊎ (length xs ≤ i)
        → is_some r ≡ ltb i (length xs) → IfSome r (λ b. b.now ≡ get_or xs i b.now)
        → option_map (λ b. method_of b.now) r ≡ seen (slice_get xs i)
    by None (inl less) has is = absurd (true≢false (sym (has ∙ lt-ltb i (length xs) less)))
    by None (inr more) has is = sym (ap seen (slice_get_past xs i more))
    by (Some b) (inl less) has is =
        sym (ap seen (slice_get_read xs (length xs) i b.now refl less is))
    by (Some b) (inr more) has is = absurd (true≢false (has ∙ le-ltb i (length xs) more))

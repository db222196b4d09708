-- A walk through the declarations of a module gives the rows of those that count.
use Rattle.std.proofs.Common.{◌≡◌, ℕ, ◌+◌, ◌<◌, ◌≤◌, Bool, true, false, cond, not, List, [], ◌∷◌, ◌++◌}
use Rattle.std.proofs.Common.{length, map, drop, Option, None, Some, is_some, refl, sym, ap, ◌∙◌}
use Rattle.std.proofs.Common.{append_assoc, suc, zero, subst, arith}
use Rattle.std.specs.Prelude.{nat_lt, slice_get, Result, Ok, Err, OnOk}
use Rattle.std.specs.List.{flat_map}
use Rattle.std.specs.Str.{bytes_eq}
use Rattle.std.proofs.lemmas.Bool.{le-ltb, lt-ltb}
use Rattle.std.proofs.lemmas.List.{append-nil, length-append, map-append}
use Rattle.std.proofs.lemmas.Grind.{flat_map-append}
use Rattle.std.proofs.lemmas.Option.{same_Some}
use Rattle.au_syntax.specs.Modules.{constant}
use Rattle.au_syntax.specs.Plain.{Bytes, PlainDeclaration, PlainModule}
use Rattle.au_types.specs.declared.spaces.Space.TheVariants.{Types}
use Rattle.au_types.specs.DeclaredNames.{type_names, numbered, given, names_in, table_of}
use Rattle.au_types.specs.Tables.{find, has_name, with_pair, with_all, without, firsts}
use Rattle.au_types.proofs.TableLemmas.{with_pair-old, with_pair-new, with_all-none, with_all-one}
use Rattle.au_types.proofs.TableLemmas.{find-firsts, firsts-append}
use Rattle.au_types.specs.declared.types.DeclAt.{DeclAt}
use Rattle.au_types.specs.declared.headings.Head.{Head}
use Rattle.au_types.specs.Rows.{head_of}
use Rattle.au_modules.specs.Programs.{ModuleParts}
use Rattle.au_modules.specs.Seen.{name_of, interface_tree, body_tree}
use Rattle.au_names.specs.declared.walking.Walk.{Walk}
use Rattle.au_names.specs.HeadsOf.{head_in, row_of, under_names, counting, rows_of, rows_at, rows_from}
use Rattle.au_names.specs.Exporting.{declarations_seen}
use Rattle.au_names.specs.Owned.{declarations_in}
use Rattle.au_names.specs.Walks.{is_new, row_on, rows_on, walk_past, walk_over, IsFreeFrom}
use Rattle.au_names.proofs.ExportLemmas.{body_seen, interface_seen}
use Rattle.au_names.proofs.RowLemmas.{free_if, free_behind, IsOnce, once_if}

-- ---- names and their numbers

abbrev numbers : List (Bytes × (ℕ × PlainDeclaration)) → List (Bytes × ℕ)
numbers ps = map (λ p. (p.0, p.1.0)) ps

given_are : (d : ℕ × PlainDeclaration) (names : List Bytes)
    → given d.0 names ≡ numbers (map (λ name. (name, d)) names)
given_are d [] = refl
given_are d (name ∷ names) = ap (λ r. (name, d.0) ∷ r) (given_are d names)

names_are : (ds : List (ℕ × PlainDeclaration)) → names_in Types ds ≡ numbers (flat_map under_names ds)
unfolding names_in
names_are [] = refl
names_are (d ∷ ds) =
    ap (λ r. given d.0 (type_names d.1) ++ r) (names_are ds)
    ∙ ap (λ r. r ++ numbers (flat_map under_names ds)) (given_are d (type_names d.1))
    ∙ sym
    (map-append (λ (p : Bytes × (ℕ × PlainDeclaration)). (p.0, p.1.0)) (under_names d)
    (flat_map under_names ds))

some_either : {A B : Type 0} (b : Bool) (x : A) (y : B) (o : Option A) (q : Option B) → is_some o ≡ is_some q
    → is_some (cond b (Some x) o) ≡ is_some (cond b (Some y) q)
some_either true x y o q h = refl
some_either false x y o q h = h

has_numbers : (name : Bytes) (ps : List (Bytes × (ℕ × PlainDeclaration)))
    → has_name name (numbers ps) ≡ has_name name ps
has_numbers name [] = refl
has_numbers name (p ∷ ps) =
    some_either _ p.1.0 p.1 (find name (numbers ps)) (find name ps) (has_numbers name ps)

-- the names that were seen are those of the declarations
has_seen : (name : Bytes) (ds : List (ℕ × PlainDeclaration))
    → has_name name (firsts (names_in Types ds)) ≡ has_name name (firsts (flat_map under_names ds))
has_seen name ds =
    ap is_some (find-firsts name (names_in Types ds))
    ∙ ap (has_name name) (names_are ds)
    ∙ has_numbers name (flat_map under_names ds)
    ∙ sym (ap is_some (find-firsts name (flat_map under_names ds)))

-- of the first of each name the numbers are those of the first of each name
keep_numbers : (b : Bool) (p : Bytes × (ℕ × PlainDeclaration)) (ps : List (Bytes × (ℕ × PlainDeclaration)))
    (rest : List (Bytes × ℕ))
    → rest ≡ numbers ps
    → cond b ((p.0, p.1.0) ∷ rest) rest ≡ numbers (cond b (p ∷ ps) ps)
keep_numbers true p ps rest same = ap (λ r. (p.0, p.1.0) ∷ r) same
keep_numbers false p ps rest same = same

without_numbers : (name : Bytes) (ps : List (Bytes × (ℕ × PlainDeclaration)))
    → without name (numbers ps) ≡ numbers (without name ps)
without_numbers name [] = refl
without_numbers name (p ∷ ps) =
    keep_numbers (not (bytes_eq name p.0)) p (without name ps) (without name (numbers ps))
    (without_numbers name ps)

firsts_numbers : (ps : List (Bytes × (ℕ × PlainDeclaration))) → firsts (numbers ps) ≡ numbers (firsts ps)
unfolding firsts
firsts_numbers [] = refl
firsts_numbers (p ∷ ps) =
    ap (λ r. (p.0, p.1.0) ∷ without p.0 r) (firsts_numbers ps)
    ∙ ap (λ r. (p.0, p.1.0) ∷ r) (without_numbers p.0 (firsts ps))

second_numbers : (ps : List (Bytes × (ℕ × PlainDeclaration)))
    → map (λ p. p.1) (numbers ps) ≡ map (λ d. d.0) (map (λ p. p.1) ps)
second_numbers [] = refl
second_numbers (p ∷ ps) = ap (λ r. p.1.0 ∷ r) (second_numbers ps)

-- the declarations that count are those of the table of types
pub counting_numbers : (ds : List (ℕ × PlainDeclaration))
    → map (λ d. d.0) (counting ds) ≡ map (λ p. p.1) (table_of Types ds)
counting_numbers ds =
    sym (second_numbers (firsts (flat_map under_names ds)))
    ∙ ap (map (λ p. p.1)) (sym (firsts_numbers (flat_map under_names ds)) ∙ ap firsts (sym (names_are ds)))

names_push : (ds : List (ℕ × PlainDeclaration)) (d : ℕ × PlainDeclaration)
    → names_in Types (ds ++ d ∷ []) ≡ names_in Types ds ++ given d.0 (type_names d.1)
unfolding names_in
names_push [] d = append-nil (given d.0 (type_names d.1))
names_push (e ∷ es) d =
    ap (λ r. given e.0 (type_names e.1) ++ r) (names_push es d)
    ∙ sym (append_assoc (given e.0 (type_names e.1)) (names_in Types es) (given d.0 (type_names d.1)))

-- the names that were seen, and those of one more declaration
seen_step : (seen : List (Bytes × ℕ)) (before : List (ℕ × PlainDeclaration)) (d : ℕ × PlainDeclaration)
    → seen ≡ firsts (names_in Types before)
    → with_all seen (given d.0 (type_names d.1)) ≡ firsts (names_in Types (before ++ d ∷ []))
seen_step seen before d same =
    ap (λ s. with_all s (given d.0 (type_names d.1))) same
    ∙ sym (firsts-append (names_in Types before) (given d.0 (type_names d.1)))
    ∙ sym (ap firsts (names_push before d))

-- ---- one more declaration

-- a declaration brings in one name or none
pub short : (d : PlainDeclaration) → length (type_names d) ≤ 1
short (constant at name t) = omega arith
short _ = omega arith

-- a table grows where the name of a declaration is new
grown : (seen : List (Bytes × ℕ)) (names : List Bytes) (number : ℕ) → length names ≤ 1
    → nat_lt (length seen) (length (with_all seen (given number names))) ≡ is_new names seen
grown seen [] number few =
    ap (λ t. nat_lt (length seen) (length t)) (with_all-none seen)
    ∙ le-ltb (length seen) (length seen) (omega arith)
grown seen (name ∷ []) number few =
    ap (λ t. nat_lt (length seen) (length t)) (with_all-one seen name number) ∙ by (has_name name seen) refl
  where
    by : (b : Bool) → has_name name seen ≡ b
        → nat_lt (length seen) (length (with_pair seen name number)) ≡ not (has_name name seen)
    by true k =
        ap (λ t. nat_lt (length seen) (length t)) (with_pair-old seen name number k)
        ∙ le-ltb (length seen) (length seen) (omega arith)
        ∙ ap not (sym k)
    by false k =
        ap (λ t. nat_lt (length seen) (length t)) (with_pair-new seen name number k)
        ∙ lt-ltb (length seen) (length (seen ++ (name, number) ∷ []))
        (omega (arith, length-append seen ((name, number) ∷ [])))
        ∙ ap not (sym k)
grown seen (name ∷ more ∷ names) number few = absurd (omega arith)

pub type_put : (seen after : List (Bytes × ℕ)) (d : PlainDeclaration) (number : ℕ)
    → after ≡ with_all seen (given number (type_names d))
    → nat_lt (length seen) (length after) ≡ is_new (type_names d) seen
type_put seen after d number h =
    ap (λ t. nat_lt (length seen) (length t)) h ∙ grown seen (type_names d) number (short d)

module _ (place : ℕ) (owner : Bytes) where
  abbrev rows_in : List (Bytes × (ℕ × PlainDeclaration)) → List (DeclAt × Head)
  rows_in ps = flat_map (row_of place owner) (map (λ p. p.1) ps)

  rows_in-push : (ps : List (Bytes × (ℕ × PlainDeclaration))) (p : Bytes × (ℕ × PlainDeclaration))
      → rows_in (ps ++ p ∷ []) ≡ rows_in ps ++ row_of place owner p.1
  rows_in-push ps p =
      ap (flat_map (row_of place owner))
      (map-append (λ (q : Bytes × (ℕ × PlainDeclaration)). q.1) ps (p ∷ []))
      ∙ flat_map-append (row_of place owner) (map (λ q. q.1) ps) (p.1 ∷ [])
      ∙ ap (λ r. rows_in ps ++ r) (append-nil (row_of place owner p.1))

  -- a pair is put, and its row with it
  pair_step : (ps : List (Bytes × (ℕ × PlainDeclaration))) (name : Bytes) (d : ℕ × PlainDeclaration)
      (b : Bool)
      → has_name name ps ≡ b
      → rows_in (with_pair ps name d) ≡ rows_in ps ++ cond (not b) (row_of place owner d) []
  pair_step ps name d true h = ap rows_in (with_pair-old ps name d h) ∙ sym (append-nil (rows_in ps))
  pair_step ps name d false h = ap rows_in (with_pair-new ps name d h) ∙ rows_in-push ps (name, d)

  -- the same for the names of a declaration, which are one or none
  names_step : (ps : List (Bytes × (ℕ × PlainDeclaration))) (seen : List (Bytes × ℕ))
      (d : ℕ × PlainDeclaration) (names : List Bytes)
      → length names ≤ 1
      → ((name : Bytes) → has_name name seen ≡ has_name name ps)
      → rows_in (with_all ps (map (λ name. (name, d)) names))
      ≡ rows_in ps ++ cond (is_new names seen) (row_of place owner d) []
  names_step ps seen d [] few same = ap rows_in (with_all-none ps) ∙ sym (append-nil (rows_in ps))
  names_step ps seen d (name ∷ []) few same =
      ap rows_in (with_all-one ps name d) ∙ pair_step ps name d (has_name name ps) refl
      ∙ ap (λ b. rows_in ps ++ cond (not b) (row_of place owner d) []) (sym (same name))
  names_step ps seen d (name ∷ more ∷ names) few same = absurd (omega arith)

  -- one more declaration gives its row, if its name is new
  row_step : (before : List (ℕ × PlainDeclaration)) (seen : List (Bytes × ℕ)) (d : ℕ × PlainDeclaration)
      → seen ≡ firsts (names_in Types before)
      → rows_of place owner (before ++ d ∷ [])
      ≡ rows_of place owner before ++ cond (is_new (type_names d.1) seen) (row_of place owner d) []
  row_step before seen d same =
      ap (λ ps. rows_in (firsts ps))
      (flat_map-append under_names before (d ∷ [])
      ∙ ap (λ r. flat_map under_names before ++ r) (append-nil (under_names d)))
      ∙ ap rows_in (firsts-append (flat_map under_names before) (under_names d))
      ∙ names_step (firsts (flat_map under_names before)) seen d (type_names d.1) (short d.1)
      (λ name. ap (has_name name) same ∙ has_seen name before)

  -- ---- all declarations

  abbrev walk_at : ℕ → List (Bytes × ℕ) → Walk
  walk_at number seen = record { place = place; number = number; seen = seen }

  -- declarations behind others give the rows that the walk gives
  walk_rows : (number : ℕ) (before : List (ℕ × PlainDeclaration)) (seen : List (Bytes × ℕ))
      (ds : List PlainDeclaration)
      → seen ≡ firsts (names_in Types before)
      → rows_of place owner (before ++ numbered number ds)
      ≡ rows_of place owner before ++ rows_on (walk_at number seen) owner ds
  unfolding numbered rows_on
  walk_rows number before seen [] same =
      ap (rows_of place owner) (append-nil before) ∙ sym (append-nil (rows_of place owner before))
  walk_rows number before seen (d ∷ ds) same =
      let next : List (Bytes × ℕ) = with_all seen (given number (type_names d)) in
      let own : List (DeclAt × Head) =
      cond (is_new (type_names d) seen) (row_of place owner (number, d)) [] in
      ap (rows_of place owner) (sym (append_assoc before ((number, d) ∷ []) (numbered (number + 1) ds)))
      ∙ walk_rows (number + 1) (before ++ (number, d) ∷ []) next ds (seen_step seen before (number, d) same)
      ∙ ap (λ r. r ++ rows_on (walk_at (number + 1) next) owner ds) (row_step before seen (number, d) same)
      ∙ append_assoc (rows_of place owner before) own (rows_on (walk_at (number + 1) next) owner ds)

  -- all declarations of a module
  whole_rows : (ds : List PlainDeclaration)
      → rows_of place owner (numbered 0 ds) ≡ rows_on (walk_at 0 []) owner ds
  unfolding firsts names_in
  whole_rows ds = walk_rows 0 [] [] ds refl

-- ---- walks

-- a walk over two lists
rows_on-append : (w : Walk) (owner : Bytes) (ds es : List PlainDeclaration)
    → rows_on w owner (ds ++ es) ≡ rows_on w owner ds ++ rows_on (walk_over w ds) owner es
unfolding rows_on walk_over
rows_on-append w owner [] es = refl
rows_on-append w owner (d ∷ ds) es =
    ap (λ r. row_on w owner d ++ r) (rows_on-append (walk_past w d) owner ds es)
    ∙ sym
    (append_assoc (row_on w owner d) (rows_on (walk_past w d) owner ds)
    (rows_on (walk_over (walk_past w d) ds) owner es))

-- a walk counts what it passes
pub number_over : (w : Walk) (ds : List PlainDeclaration) → (walk_over w ds).number ≡ w.number + length ds
unfolding walk_over
number_over w [] = omega arith
number_over w (d ∷ ds) = omega (arith, number_over (walk_past w d) ds)

-- a walk stays in its module
place_over : (w : Walk) (ds : List PlainDeclaration) → (walk_over w ds).place ≡ w.place
unfolding walk_over
place_over w [] = refl
place_over w (d ∷ ds) = place_over (walk_past w d) ds

pub rows_on-none : (w : Walk) (owner : Bytes) → rows_on w owner [] ≡ []
unfolding rows_on
rows_on-none w owner = refl

pub rows_on-cons : (w : Walk) (owner : Bytes) (d : PlainDeclaration) (ds : List PlainDeclaration)
    → rows_on w owner (d ∷ ds) ≡ row_on w owner d ++ rows_on (walk_past w d) owner ds
unfolding rows_on
rows_on-cons w owner d ds = refl

pub walk_over-none : (w : Walk) → walk_over w [] ≡ w
unfolding walk_over
walk_over-none w = refl

pub walk_over-cons : (w : Walk) (d : PlainDeclaration) (ds : List PlainDeclaration)
    → walk_over w (d ∷ ds) ≡ walk_over (walk_past w d) ds
unfolding walk_over
walk_over-cons w d ds = refl

pub ruleset walk_steps = (rows_on-none, walk_over-none)

-- the row of one more declaration is put, and what is left stays all
pub rows_next : (w next : Walk) (owner : Bytes) (d : PlainDeclaration)
    (before after all : List (DeclAt × Head)) (ds es : List PlainDeclaration)
    → ds ≡ d ∷ es
    → before ++ rows_on w owner ds ≡ all → after ≡ before ++ row_on w owner d → next ≡ walk_past w d
    → after ++ rows_on next owner es ≡ all
rows_next w next owner d before after all ds es split old new past =
    ap (λ v. after ++ rows_on v owner es) past
    ∙ ap (λ r. r ++ rows_on (walk_past w d) owner es) new
    ∙ append_assoc before (row_on w owner d) (rows_on (walk_past w d) owner es)
    ∙ ap (λ r. before ++ r) (sym (rows_on-cons w owner d es))
    ∙ ap (λ r. before ++ rows_on w owner r) (sym split)
    ∙ old

pub walk_next : (w next end : Walk) (d : PlainDeclaration) (ds es : List PlainDeclaration) → ds ≡ d ∷ es
    → walk_over w ds ≡ end → next ≡ walk_past w d → walk_over next es ≡ end
walk_next w next end d ds es split old past =
    ap (λ v. walk_over v es) past ∙ sym (walk_over-cons w d es) ∙ ap (walk_over w) (sym split) ∙ old

-- nothing is left
pub rows_end : (w : Walk) (owner : Bytes) (rows all : List (DeclAt × Head)) (ds : List PlainDeclaration)
    → ds ≡ [] → rows ++ rows_on w owner ds ≡ all → rows ≡ all
rows_end w owner rows all ds none old =
    sym (append-nil rows) ∙ ap (λ r. rows ++ r) (sym (rows_on-none w owner))
    ∙ ap (λ r. rows ++ rows_on w owner r) (sym none) ∙ old

pub walk_end : (w end : Walk) (ds : List PlainDeclaration) → ds ≡ [] → walk_over w ds ≡ end → w ≡ end
walk_end w end ds none old = sym (walk_over-none w) ∙ ap (walk_over w) (sym none) ∙ old

-- ---- modules

-- the parts of a module, one behind the other
module_rows : (place : ℕ) (found : Option ModuleParts) (owner : Bytes) → name_of found ≡ Some owner
    → rows_on (walk_at place owner 0 []) owner (declarations_seen (interface_tree found))
    ++ rows_on (walk_over (walk_at place owner 0 []) (declarations_seen (interface_tree found))) owner
    (declarations_seen (body_tree found))
    ≡ rows_at place found
module_rows place None owner h = cc
module_rows place (Some m) owner h =
    sym
    (rows_on-append (walk_at place owner 0 []) owner (declarations_seen (interface_tree (Some m)))
    (declarations_seen (body_tree (Some m))))
    ∙ sym
    (whole_rows place owner
    (declarations_seen (interface_tree (Some m)) ++ declarations_seen (body_tree (Some m))))
    ∙ ap (λ o. rows_of place o
    (numbered 0 (declarations_seen (interface_tree (Some m)) ++ declarations_seen (body_tree (Some m)))))
    (sym (same_Some m.name owner h))
    ∙ (λ i. rows_of place m.name (numbered 0 (sym (interface_seen m) i ++ sym (body_seen m) i)))

-- a walk over both parts of the module at a place gives the rows of that module
pub module_done : (place start : ℕ) (seen : List (Bytes × ℕ)) (found : Option ModuleParts) (owner : Bytes)
    (interface body : Option PlainModule) (before middle after : List (DeclAt × Head)) (w : Walk)
    → start ≡ place → seen ≡ [] → name_of found ≡ Some owner → interface ≡ interface_tree found
    → body ≡ body_tree found
    → middle
    ≡ before
    ++ rows_on (record { place = start; number = 0; seen = seen }) owner (declarations_seen interface)
    → w ≡ walk_over (record { place = start; number = 0; seen = seen }) (declarations_seen interface)
    → after ≡ middle ++ rows_on w owner (declarations_seen body)
    → after ≡ before ++ rows_at place found
module_done place start seen found owner interface body before middle after w here new named first second one
    stands two =
    let from : Walk = record { place = start; number = 0; seen = seen } in
    two
    ∙ ap (λ r. r ++ rows_on w owner (declarations_seen body)) one
    ∙ ap
    (λ v.
    (before ++ rows_on from owner (declarations_seen interface))
    ++ rows_on v owner (declarations_seen body))
    stands
    ∙ append_assoc before (rows_on from owner (declarations_seen interface))
    (rows_on (walk_over from (declarations_seen interface)) owner (declarations_seen body))
    ∙ ap (λ r. before ++ r)
    ((λ k. rows_on (record { place = here k; number = 0; seen = new k }) owner (declarations_seen (first k))
    ++ rows_on (walk_over (record { place = here k; number = 0; seen = new k }) (declarations_seen (first k)))
    owner (declarations_seen (second k)))
    ∙ module_rows place found owner named)

-- a walk over both parts stays in the module
pub place_done : (place start : ℕ) (seen : List (Bytes × ℕ)) (interface body : List PlainDeclaration)
    (middle w : Walk)
    → start ≡ place
    → middle ≡ walk_over (record { place = start; number = 0; seen = seen }) interface
    → w ≡ walk_over middle body → w.place ≡ place
place_done place start seen interface body middle w here first second =
    let from : Walk = record { place = start; number = 0; seen = seen } in
    ap (λ v. v.place) second ∙ place_over middle body ∙ ap (λ v. v.place) first ∙ place_over from interface
    ∙ here

-- the module at a place, and those behind it
from_step : (ms : List ModuleParts) (place i : ℕ) → i < length ms
    → rows_from place (drop i ms) ≡ rows_at place (slice_get ms i) ++ rows_from (place + 1) (drop (i + 1) ms)
unfolding rows_from
from_step [] place i h = absurd (omega arith)
from_step (m ∷ ms) place zero h = refl
from_step (m ∷ ms) place (suc i) h =
    let same : suc (i + 1) ≡ suc i + 1 = omega arith in
    from_step ms place i (omega arith)
    ∙ ap (λ n. rows_at place (slice_get ms i) ++ rows_from (place + 1) (drop n (m ∷ ms))) same

-- no module is past the last
from_past : (ms : List ModuleParts) (place i : ℕ) → length ms ≤ i → rows_from place (drop i ms) ≡ []
unfolding rows_from
from_past [] place zero h = refl
from_past [] place (suc i) h = refl
from_past (m ∷ ms) place zero h = absurd (omega arith)
from_past (m ∷ ms) place (suc i) h = from_past ms place i (omega arith)

-- the rows of one more module are put, and what is left stays all
pub from_next : (ms : List ModuleParts) (place : ℕ) (before after all : List (DeclAt × Head))
    → place < length ms
    → before ++ rows_from place (drop place ms) ≡ all → after ≡ before ++ rows_at place (slice_get ms place)
    → after ++ rows_from (place + 1) (drop (place + 1) ms) ≡ all
from_next ms place before after all h old new =
    ap (λ r. r ++ rows_from (place + 1) (drop (place + 1) ms)) new
    ∙ append_assoc before (rows_at place (slice_get ms place)) (rows_from (place + 1) (drop (place + 1) ms))
    ∙ ap (λ r. before ++ r) (sym (from_step ms place place h))
    ∙ old

-- behind the last module all rows are there
pub from_end : (ms : List ModuleParts) (place : ℕ) (rows all : List (DeclAt × Head)) → length ms ≤ place
    → rows ++ rows_from place (drop place ms) ≡ all → rows ≡ all
from_end ms place rows all h old =
    sym (append-nil rows) ∙ ap (λ r. rows ++ r) (sym (from_past ms place place h)) ∙ old

-- ---- no two rows are of one declaration

-- later declarations stay free
abbrev IsGood : ℕ → ℕ → List (DeclAt × Head) → Type 0
IsGood place number rows = IsFreeFrom place number rows × IsOnce rows

good_on : (w : Walk) (owner : Bytes) (ds : List PlainDeclaration) (rows : List (DeclAt × Head))
    → IsGood w.place w.number rows
    → IsGood (walk_over w ds).place (walk_over w ds).number (rows ++ rows_on w owner ds)
unfolding rows_on walk_over
good_on w owner [] rows good =
    let P : List (DeclAt × Head) → Type 0 = λ r. IsGood w.place w.number r in
    subst P (sym (append-nil rows)) good
good_on w owner (d ∷ ds) rows good =
    let P : List (DeclAt × Head) → Type 0 = λ r.
    IsGood (walk_over (walk_past w d) ds).place (walk_over (walk_past w d) ds).number r in
    subst P (append_assoc rows (row_on w owner d) (rows_on (walk_past w d) owner ds))
    (good_on (walk_past w d) owner ds (rows ++ row_on w owner d) (
      free_if (is_new (type_names d) w.seen) w.place w.number rows (head_in owner d) good.0,
      once_if (is_new (type_names d) w.seen) w.place w.number rows (head_in owner d) good.0 good.1,
    ))

good_module : (place : ℕ) (m : ModuleParts) (rows : List (DeclAt × Head)) → IsGood place 0 rows
    → IsGood (place + 1) 0 (rows ++ rows_at place (Some m))
good_module place m rows good =
    let ds : List PlainDeclaration = declarations_in m.interface ++ declarations_in m.body in
    let w : Walk = record { place = place; number = 0; seen = [] } in
    let P : List (DeclAt × Head) → Type 0 = λ r. IsGood (place + 1) 0 (rows ++ r) in
    let all : IsGood (walk_over w ds).place (walk_over w ds).number (rows ++ rows_on w m.name ds) =
    good_on w m.name ds rows good in
    subst P (sym (whole_rows place m.name ds)) (
      free_behind place (walk_over w ds).place (walk_over w ds).number (rows ++ rows_on w m.name ds)
          (place_over w ds) all.0,
      all.1,
    )

once_from : (ms : List ModuleParts) (place : ℕ) (rows : List (DeclAt × Head)) → IsGood place 0 rows
    → IsOnce (rows ++ rows_from place ms)
unfolding rows_from
once_from [] place rows good =
    let P : List (DeclAt × Head) → Type 0 = λ r. IsOnce r in
    subst P (sym (append-nil rows)) good.1
once_from (m ∷ ms) place rows good =
    let P : List (DeclAt × Head) → Type 0 = λ r. IsOnce r in
    subst P (append_assoc rows (rows_at place (Some m)) (rows_from (place + 1) ms))
    (once_from ms (place + 1) (rows ++ rows_at place (Some m)) (good_module place m rows good))

none_once : (i : ℕ) (row : DeclAt × Head) → slice_get {X = DeclAt × Head} [] i ≡ Some row
    → head_of [] row.0 ≡ Some row.1
none_once i row h = cc

-- each row of a program stands once
pub heads_once : (ms : List ModuleParts) (i : ℕ) (row : DeclAt × Head)
    → slice_get (rows_from 0 ms) i ≡ Some row → head_of (rows_from 0 ms) row.0 ≡ Some row.1
heads_once ms = once_from ms 0 [] (λ at later. refl, none_once)

-- what two facts on success give
pub on_ok_both : {T E P Q R : Type 0} (r : Result T E) → (P → Q → R) → OnOk r P → OnOk r Q → OnOk r R
on_ok_both (Ok x) f p q = f p q
on_ok_both (Err e) f p q = p

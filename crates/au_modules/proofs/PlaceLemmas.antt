-- What stands at a place, and that places and numbers fit.
use Rattle.std.proofs.Common.{◌≡◌, ◌≤◌, ◌+◌, ℕ, zero, suc, Bool, true, false, not, ◌&&◌, List, [], ◌∷◌, ◌++◌}
use Rattle.std.proofs.Common.{length, map, Option, Some, None, ap, arith}
use Rattle.std.specs.Prelude.{if◌then◌else◌, IsTrue, slice_get}
use Rattle.std.specs.List.{list_all}
use Rattle.std.specs.Option.{option_map}
use Rattle.std.proofs.lemmas.Bool.{and_parts, leb-true}
use Rattle.std.proofs.lemmas.List.{length-append, length-map}
use Rattle.std.proofs.lemmas.Option.{slice_get-map}
use Rattle.au_syntax.specs.declared.wholes.FileTree.{FileTree}
use Rattle.au_base.specs.Limits.{most_tokens}
use Rattle.au_syntax.specs.Plain.{PlainModule}
use Rattle.au_modules.specs.declared.modules.Modules.{Modules}
use Rattle.au_modules.specs.declared.modules.Slot.{Slot}
use Rattle.au_modules.specs.declared.parts.Given.{Given}
use Rattle.au_modules.specs.Counts.{are_few, has_few, most_files}
use Rattle.au_modules.specs.Programs.{Entry, entry, given, is_interface}
use Rattle.au_modules.specs.Seen.{body_tree, interface_tree}
use Rattle.au_modules.specs.Slots.{body_slots, file_at, modules, parts_at, shipped_slots}

-- the module at a place
pub module_at : (files : List Entry) (slots : List Slot) (place : ℕ)
    → slice_get (map (parts_at files) slots) place ≡ option_map (parts_at files) (slice_get slots place)
module_at files slots place = slice_get-map (parts_at files) slots place

-- what the file of an index says
pub file_seen : (files : List FileTree) (i : ℕ)
    → slice_get (map entry files) i ≡ option_map entry (slice_get files i)
file_seen files i = slice_get-map entry files i

-- there are as many modules as places
pub modules_length : (files : List Entry) (slots : List Slot)
    → length (map (parts_at files) slots) ≡ length slots
modules_length files slots = length-map slots (parts_at files)

pub ruleset place_steps = (module_at, file_seen, modules_length)

-- ---- places and numbers fit

-- a file gives one slot at most
one_slot : (shipped interface : Bool) (one other : Slot) (slots others : List Slot) (count : ℕ)
    → length slots + length others ≤ count
    → length (if shipped then one ∷ slots else slots) + length
    (if not shipped && not interface then other ∷ others else others) ≤ suc count
one_slot true interface one other slots others count h = omega (arith, h)
one_slot false true one other slots others count h = omega (arith, h)
one_slot false false one other slots others count h = omega (arith, h)

-- there are no more slots than files
slots_within : (all givens : List Given) (first next : ℕ)
    → length (shipped_slots first givens) + length (body_slots all next givens) ≤ length givens
slots_within all [] first next = omega arith
slots_within all (g ∷ givens) first next =
    one_slot g.shipped (is_interface g.part) _ _ _ _ (length givens)
    (slots_within all givens (first + 1) (next + 1))

-- nor more than a program has files
pub slots_placed : (files : List Entry) (slots : List Slot) → IsTrue (are_few files)
    → slots ≡ shipped_slots 0 (map given files) ++ body_slots (map given files) 0 (map given files)
    → length slots ≤ most_files
slots_placed files slots few is =
    let within = slots_within (map given files) (map given files) 0 0 in
    let count : length files ≤ most_files = leb-true (length files) most_files (and_parts _ _ few).0 in
    let same = length-append (shipped_slots 0 (map given files))
    (body_slots (map given files) 0 (map given files)) in
    let all = ap length is in
    omega (arith, within, count, same, all, length-map files given)

-- the place of a module is below the most files of a program
pub places_fit : (m : Modules) → length (modules m) ≤ most_files
places_fit m = omega (arith, modules_length (map entry m.files.items) m.slots.items, m.placed)

-- the declarations of a file, if there is one
abbrev pub declared : Option PlainModule → ℕ
declared None = 0
declared (Some tree) = length tree.declarations

few_at : (files : List Entry) (i : ℕ) → list_all has_few files ≡ true
    → declared (option_map (λ (e : Entry). e.tree) (slice_get files i)) ≤ most_tokens
few_at [] i h = omega arith
few_at (e ∷ files) zero h =
    leb-true (length e.tree.declarations) most_tokens (and_parts (has_few e) (list_all has_few files) h).0
few_at (e ∷ files) (suc i) h = few_at files i (and_parts (has_few e) (list_all has_few files) h).1

few_in : (files : List Entry) (index : Option ℕ) → list_all has_few files ≡ true
    → declared (option_map (λ (e : Entry). e.tree) (file_at files index)) ≤ most_tokens
few_in files None h = omega arith
few_in files (Some i) h = few_at files i h

parts_few : (files : List Entry) (slots : List Slot) (place : ℕ) → list_all has_few files ≡ true
    → (declared (interface_tree (slice_get (map (parts_at files) slots) place)) ≤ most_tokens)
    × (declared (body_tree (slice_get (map (parts_at files) slots) place)) ≤ most_tokens)
parts_few files slots place h = by (slice_get slots place) (module_at files slots place)
  where
    by : (o : Option Slot) → slice_get (map (parts_at files) slots) place ≡ option_map (parts_at files) o
        → (declared (interface_tree (slice_get (map (parts_at files) slots) place)) ≤ most_tokens)
        × (declared (body_tree (slice_get (map (parts_at files) slots) place)) ≤ most_tokens)
    by None is = rw is (omega arith, omega arith)
    by (Some slot) is = rw is (few_in files slot.interface h, few_in files slot.body h)

-- the number of a declaration of a module is below twice the most tokens of a file
pub numbers_fit : (m : Modules) (place : ℕ)
    → (declared (interface_tree (slice_get (modules m) place)) ≤ most_tokens)
    × (declared (body_tree (slice_get (modules m) place)) ≤ most_tokens)
numbers_fit m place = parts_few (map entry m.files.items) m.slots.items place (and_parts _ _ m.few).1

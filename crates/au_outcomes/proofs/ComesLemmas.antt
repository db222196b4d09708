-- What steps say, from what the steps in them say.
use Rattle.std.proofs.Common.{◌≡◌, ℕ, ◌<◌, ◌≤◌, true, false, List, length, Option, Result, Ok, Err, ap, ◌∙◌}
use Rattle.std.proofs.Common.{sym, refl, subst, arith, inl, inr}
use Rattle.au_base.specs.declared.places.Pos.{Pos}
use Rattle.au_base.specs.declared.tokens.Token.{Token}
use Rattle.au_base.specs.Outside.{Files, Counts}
use Rattle.au_base.specs.Places.{place_after}
use Rattle.au_lexer.specs.Cut.{Cut}
use Rattle.au_lexer.specs.Passing.{IsWithinLimits}
use Rattle.au_outcomes.specs.Outcomes.{BytesCome, JudgedCome, files_limit, judges}
use Rattle.au_outcomes.specs.Halts.{AreFilesOf, ComesTo, FirstUnhad, Says, is_missing, is_read_halt}
use Rattle.au_accepted.specs.Files.{most_files}
use Rattle.au_outcomes.specs.Reading.{TokensHalt}
use Rattle.au_outcomes.specs.Trees.{Halts}
use Rattle.au_outcomes.specs.declared.halts.Halt.{Halt}
use Rattle.au_outcomes.specs.declared.halts.Halt.TheVariants as halt
use Rattle.au_outcomes.specs.declared.outcomes.Aim.{Aim}
use Rattle.au_outcomes.specs.declared.outcomes.Aim.TheVariants as aims
use Rattle.au_outcomes.specs.declared.outcomes.Outcome.{Outcome}
use Rattle.au_outcomes.specs.declared.outcomes.Outcome.TheVariants as outcome
use Rattle.au_outcomes.proofs.FetchLemmas.{files_few, told_files, unhad_few}
use Rattle.au_outcomes.proofs.HaltLemmas.{halts_so, not_missing}
use Rattle.au_outcomes.proofs.BytesLemmas.{bytes_found}

-- what a step says, said of other things
pub says_map : {T : Type 0} (r : Result T Halt) (G H : T → Type 0) (K L : Outcome → Type 0) →
    ((x : T) → G x → H x) → ((o : Outcome) → K o → L o) → Says r G K → Says r H L
says_map (Ok x) G H K L gave known h = gave x h
says_map (Err (halt.Known arisen)) G H K L gave known h = known arisen h
says_map (Err (halt.Unknown e)) G H K L gave known h = tt

-- what is said of a halt alone
pub halts_with : {T U : Type 0} (e : Halt) (G : T → Type 0) (H : U → Type 0) (K L : Outcome → Type 0) →
    ((o : Outcome) → K o → L o) → Says {T = T} (Err e) G K → Says {T = U} (Err e) H L
halts_with (halt.Known arisen) G H K L known h = known arisen h
halts_with (halt.Unknown e) G H K L known h = tt

-- a halt of one step is the halt of another
pub read_with : (T U : Type 0) (e : Halt) → is_read_halt {T = T} (Err e) ≡ true → is_read_halt {T = U} (Err e) ≡ true
read_with T U (halt.Known arisen) h = cc
read_with T U (halt.Unknown e) h = h

-- files that are judged come to what is asked
judged_come : (aim : Aim) (all : List (List ℕ)) (x : Outcome) → judges aim ≡ true → JudgedCome aim all x
    → BytesCome aim all x
judged_come aims.Run all x judged h = h
judged_come aims.Compile all x judged h = h
judged_come aims.Check all x judged h = h
judged_come aims.Explain all x judged h = h
judged_come aims.Format all x judged h = absurd (let e : false ≡ true = judged in cc)
judged_come aims.Caps all x judged h = h

pub judged_says : (aim : Aim) (all : List (List ℕ)) (r : Result Outcome Halt) → judges aim ≡ true
    → Says r (JudgedCome aim all) (JudgedCome aim all) → Says r (BytesCome aim all) (BytesCome aim all)
judged_says aim all r judged h =
    says_map r (JudgedCome aim all) (BytesCome aim all) (JudgedCome aim all) (BytesCome aim all)
    (λ x. judged_come aim all x judged) (λ x. judged_come aim all x judged) h

-- and those that aren't are laid out
not_judged : (aim : Aim) → judges aim ≡ false → aims.Format ≡ aim
not_judged aims.Run h = absurd (let e : true ≡ false = h in cc)
not_judged aims.Compile h = absurd (let e : true ≡ false = h in cc)
not_judged aims.Check h = absurd (let e : true ≡ false = h in cc)
not_judged aims.Explain h = absurd (let e : true ≡ false = h in cc)
not_judged aims.Format h = refl
not_judged aims.Caps h = absurd (let e : true ≡ false = h in cc)

pub laid_says : (aim : Aim) (all : List (List ℕ)) (r : Result Outcome Halt) → judges aim ≡ false
    → Says r (BytesCome aims.Format all) (BytesCome aims.Format all) → Says r (BytesCome aim all) (BytesCome aim all)
laid_says aim all r other h = subst (λ a. Says r (BytesCome a all) (BytesCome a all)) (not_judged aim other) h

-- ---- one file

-- what its tokens halt with, a file halts with
pub halts_from : (file : ℕ) (bytes : List ℕ) (list read : List Token) (end : Pos) (x : Outcome) →
    Cut file bytes list → IsWithinLimits list → read ≡ list → end ≡ place_after file bytes →
    TokensHalt read end x → Halts file bytes x
halts_from file bytes list read end x cut within same behind h =
    halts_so file bytes list x cut within
    (subst (λ ts. TokensHalt ts (place_after file bytes) x) same
    (subst (λ p. TokensHalt read p x) behind h))

-- ---- the files of names

-- they are too many
pub many_come : (aim : Aim) (told : Option Files) (names : List (List ℕ)) (count : ℕ) (x : Outcome)
    → count ≡ length names → most_files < count → x ≡ outcome.Passes (files_limit count) → ComesTo aim told names x
many_come aim told names count x same many is =
    let h = told_files told in
    let more : most_files < length names = omega arith in
    (h.0, h.1, inl (more, is ∙ ap (λ c. outcome.Passes (files_limit c)) same))

-- one can't be had
pub few_come : (aim : Aim) (told : Option Files) (names : List (List ℕ)) (x : Outcome) → length names ≤ most_files
    → FirstUnhad told names x → ComesTo aim told names x
few_come aim told names x few h = (h.0, h.1, inr (few, unhad_few aim h.0 names x h.2))

-- all can be had
pub bytes_come : (aim : Aim) (told : Option Files) (names all : List (List ℕ)) (x : Outcome)
    → length names ≤ most_files → AreFilesOf told names all → BytesCome aim all x → ComesTo aim told names x
bytes_come aim told names all x few files h =
    (files.0, files.1, inr (few, files_few aim files.0 names all x files.2 h (bytes_found aim all x h)))

-- a count that stays
stays : (old new : ℕ) → new ≡ old → Counts false old new
stays old new same = (omega arith, same)

-- a step that is about bytes counts no miss
no_miss_of : (aim : Aim) (all : List (List ℕ)) (x : Outcome) (old new : ℕ) → BytesCome aim all x → new ≡ old
    → Counts (is_missing x) old new
no_miss_of aim all x old new h same =
    subst (λ b. Counts b old new) (sym (not_missing x (bytes_found aim all x h))) (stays old new same)

pub no_miss : (aim : Aim) (r : Result Outcome Halt) (all : List (List ℕ)) (old new : ℕ)
    → Says r (BytesCome aim all) (BytesCome aim all) → new ≡ old
    → Says r (λ x. Counts (is_missing x) old new) (λ x. Counts (is_missing x) old new)
no_miss aim (Ok x) all old new h same = no_miss_of aim all x old new h same
no_miss aim (Err (halt.Known x)) all old new h same = no_miss_of aim all x old new h same
no_miss aim (Err (halt.Unknown e)) all old new h same = tt

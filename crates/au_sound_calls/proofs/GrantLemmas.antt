-- What is done with the root and with terminals.
use Rattle.std.proofs.Common.{◌≡◌, ℕ, List, [], ◌∷◌, length, Option, Some, refl, sym, ap, subst, ◌∙◌, pos}
use Rattle.std.specs.Prelude.{None, codes}
use Rattle.au_base.specs.declared.kinds.IntKind.TheVariants.{Nat8}
use Rattle.au_shipped.specs.declared.prims.ShippedCall.TheVariants as prim
use Rattle.au_effects.specs.Answers.{Answer, gives, waits, writes}
use Rattle.au_effects.specs.Calls.{byte_value, given, root_in, shipped, terminal_in}
use Rattle.au_effects.specs.Values.{number, optional, root, terminal, unit}
use Rattle.au_effects.specs.Worlds.{World, bears, consumed, nothing, spends, tells, used}
use Rattle.au_running_types.specs.Running.{token}
use Rattle.au_types.specs.Types as meaning
use Rattle.au_types.specs.Types.{Meaning}
use Rattle.au_memory.specs.Forests.{Holds, Made}
use Rattle.au_memory.specs.Loans.{Types}
use Rattle.au_borrows.specs.Orders.{Act}
use Rattle.au_borrows.specs.Told.{Open, with_birth, with_end}
use Rattle.au_acting.proofs.GrantLemmas as grants
use Rattle.au_acting.proofs.ValueLemmas as values
use Rattle.au_agreeing.specs.Stores.{memory_of, told_of}
use Rattle.au_agreeing.proofs.StoreLemmas.{births_begin}
use Rattle.au_agreeing.proofs.ToldLemmas.{births_told}
use Rattle.au_sound_calls.specs.Granting.{AcquiresTerminals, IsOptionOf, ReadsBytes, ReleasesTerminals, SurrendersRoots}
use Rattle.au_sound_calls.specs.Granting.{WritesBytes}
use Rattle.au_sound_calls.specs.Sound.{GoesWell, IsSound}
use Rattle.au_sound_calls.proofs.NumberLemmas.{byte_least, byte_natural}
use Rattle.au_sound_calls.proofs.PrintLemmas.{plain_gone}
use Rattle.au_sound_calls.proofs.SoundLemmas.{home_fits, number_is, sound_as, sound_plain, sound_used, used_good}
use Rattle.au_sound_calls.proofs.SoundLemmas.{told_memory}

module _ (B : Type 0) (types : Types) (owner : B → Option (List ℕ)) (acts : List Act) (hold : Holds)
    (names : ℕ → ℕ → Meaning) (under : Made) (lying : List Open) (sizes : List ℕ) (w : World (List ℕ) B) where
  -- what an answer comes to
  abbrev Good : Meaning → Answer (List ℕ) B → Type 0
  Good t answer = GoesWell types owner acts hold names t under lying sizes answer

  pub surrenders_roots : SurrendersRoots B types owner acts hold names under lying sizes w
  unfolding shipped
  surrenders_roots typed v t is sound =
      let done = grants.ends_roots B types owner acts hold names under (memory_of w) (told_of lying w) typed.forms
      typed.grants v t is sound.safe in
      let after = spends (Some done.0) w in
      let last = sound_plain B types owner acts hold names under lying sizes after unit meaning.unit tt
      (sound_as B types owner acts hold names under lying sizes after (memory_of w) (with_end done.0 (told_of lying w))
      sound.keeps sound.sized (told_memory (consumed done.0) w) ((births_told w sound.keeps lying).4 done.0) done.2) in
      subst (λ x. Good meaning.unit (shipped (λ u. u) prim.SurrenderRoot None w (x ∷ []))) (sym done.1) last

  pub releases_terminals : ReleasesTerminals B types owner acts hold names under lying sizes w
  unfolding shipped
  releases_terminals typed v t is sound =
      let done = grants.ends_terminals B types owner acts hold names under (memory_of w) (told_of lying w) typed.forms
      typed.grants v t is sound.safe in
      let after = spends (Some done.0) w in
      let last = sound_plain B types owner acts hold names under lying sizes after unit meaning.unit tt
      (sound_as B types owner acts hold names under lying sizes after (memory_of w) (with_end done.0 (told_of lying w))
      sound.keeps sound.sized (told_memory (consumed done.0) w) ((births_told w sound.keeps lying).4 done.0) done.2) in
      subst (λ x. Good meaning.unit (shipped (λ u. u) prim.ReleaseTerminal None w (x ∷ []))) (sym done.1) last

  pub acquires_terminals : AcquiresTerminals B types owner acts hold names under lying sizes w
  unfolding shipped
  acquires_terminals typed r t of z kind is is_terminal on home sound =
      let module' = codes "Standard.IO.Terminal" in
      let done = grants.uses_roots B types owner acts hold names under (memory_of w) (told_of lying w) typed.forms
      typed.grants r t z is on sound.safe in
      let one = tells (used done.0) w in
      let sound' = sound_used B types owner acts hold names under lying sizes w done.0 sound.keeps sound.sized done.5 in
      let id = length w.births in
      let safe = grants.makes_terminals B types owner acts hold names under (memory_of one) (told_of lying one) of kind
      module' is_terminal (home_fits owner id kind module' home) sound'.safe in
      let last : IsSound types owner acts hold names ((terminal id, of) ∷ under) lying sizes (bears kind module' nothing one) =
      sound_as B types owner acts hold names ((terminal id, of) ∷ under) lying sizes (bears kind module' nothing one)
      (memory_of one) (with_birth kind module' (told_of lying one)) sound.keeps sound.sized (births_begin one kind module').1
      ((births_told one sound.keeps lying).0 kind module') safe in
      used_good (Good of) w r done.0 done.1 (root done.2)
      (λ borrow place held. given (root_in held) (λ i. given (Some kind) (λ k.
      gives (terminal (length w.births)) (bears k module' nothing (tells (used borrow) w))))) done.3 done.4 last

  pub writes_bytes : WritesBytes B types owner acts hold names under lying sizes w
  unfolding shipped
  writes_bytes typed b r t z is on sound =
      let gone = plain_gone B types owner acts hold names ((r, meaning.writes t (token z)) ∷ under) lying sizes w typed b
      (meaning.integer Nat8) tt sound in
      let one = number_is b Nat8 gone.0 in
      let byte = byte_natural one.0 one.2 in
      let value : b ≡ number Nat8 (pos byte.0) = one.1 ∙ ap (λ n. number Nat8 n) byte.1 in
      let done = grants.uses_terminals B types owner acts hold names under (memory_of w) (told_of lying w) typed.forms
      typed.grants r t z is on gone.1.safe in
      let after = tells (used done.0) w in
      let last = sound_plain B types owner acts hold names under lying sizes after unit meaning.unit tt
      (sound_used B types owner acts hold names under lying sizes w done.0 sound.keeps sound.sized done.5) in
      subst (λ x. Good meaning.unit (shipped (λ u. u) prim.WriteByte None w (r ∷ x ∷ []))) (sym value)
      (used_good (Good meaning.unit) w r done.0 done.1 (terminal done.2)
      (λ borrow place held. given (terminal_in held) (λ id. given (Some byte.0) (λ n.
      writes (n ∷ []) (tells (used borrow) w)))) done.3 done.4 last)

  -- whichever byte comes
  heard : (option : Meaning) → IsOptionOf types option (meaning.integer Nat8) → (after : World (List ℕ) B)
      → IsSound types owner acts hold names under lying sizes after → (byte : Option ℕ)
      → Good option (gives (optional (byte_value byte)) after)
  heard option is after sound None = record {
    keeps = sound.keeps;
    sized = sound.sized;
    safe = values.makes_free B types owner acts hold names under (memory_of after) (told_of lying after) [] option 0
        is.none_is is.free sound.safe;
  }
  heard option is after sound (Some n) =
      let one = sound_plain B types owner acts hold names under lying sizes after (number Nat8 (pos n)) (meaning.integer Nat8)
      (refl, byte_least n) sound in
      record {
        keeps = sound.keeps;
        sized = sound.sized;
        safe = values.makes_free B types owner acts hold names under (memory_of after) (told_of lying after)
            ((number Nat8 (pos n), meaning.integer Nat8) ∷ []) option 1 is.some_is is.free one.safe;
      }

  pub reads_bytes : ReadsBytes B types owner acts hold names under lying sizes w
  unfolding shipped
  reads_bytes typed r t option z is option_is on sound =
      let done = grants.uses_terminals B types owner acts hold names under (memory_of w) (told_of lying w) typed.forms
      typed.grants r t z is on sound.safe in
      let after = sound_used B types owner acts hold names under lying sizes w done.0 sound.keeps sound.sized done.5 in (
        used_good (λ answer. answer ≡ waits) w r done.0 done.1 (terminal done.2)
            (λ borrow place held. given (terminal_in held) (λ id. waits)) done.3 done.4 refl,
        λ byte. used_good (Good option) w r done.0 done.1 (terminal done.2)
            (λ borrow place held. given (terminal_in held) (λ id.
            gives (optional (byte_value byte)) (tells (used borrow) w))) done.3 done.4
            (heard option option_is (tells (used done.0) w) after byte),
      )

-- The entries of what types mention are what they reach.
use Rattle.std.proofs.Common.{◌≡◌, ℕ, inl, inr, Bool, true, false, List, [], ◌∷◌, Option, None, Some, refl}
use Rattle.std.proofs.Common.{sym, ap, ◌∙◌, subst, Contains}
use Rattle.std.specs.Option.{option_and_then}
use Rattle.std.specs.Prelude.{slice_get, if◌then◌else◌}
use Rattle.std.proofs.lemmas.Option.{none-some}
use Rattle.au_syntax.specs.Plain.{Bytes}
use Rattle.au_types.specs.declared.parameters.Parameter.{Parameter}
use Rattle.au_modules.specs.Programs.{ModuleParts}
use Rattle.au_names.proofs.AmongLemmas.{Among, among, among-flat_map, among-flat_map_from, contains}
use Rattle.au_formed.specs.declared.namings.Naming.{Naming}
use Rattle.au_caps_types.specs.declared.reached.Reaching.{Reaching}
use Rattle.au_caps_types.specs.Heads.{head_of, may_stand}
use Rattle.au_caps_types.specs.Views.{AreReached, IsHeadAt, places}
use Rattle.au_caps_types.proofs.GraphLemmas.{among_kept, kept_among}
use Rattle.au_caps_text.specs.Lists.{IsListOf}
use Rattle.au_caps_lists.specs.Entries.{entries, entries_in, head_at}
use Rattle.au_caps_lists.specs.Mentions.{Mention, declared, generic}
use Rattle.au_caps_lists.specs.Reaching.{Reaches, a_head, a_parameter}

module _ (program : List ModuleParts) (r : Reaching) where
  -- what stands at a place is a head there
  pub is_head : (place : ℕ) (h : Bytes) → head_at program r place ≡ Some h → IsHeadAt program r place h
  is_head place h e = by (slice_get r.heads.items place) refl e
    where
      by : (o : Option Naming) → slice_get r.heads.items place ≡ o
          → option_and_then (λ (n : Naming). head_of program n.of) o ≡ Some h → IsHeadAt program r place h
      by None is k = absurd (none-some h k)
      by (Some one) is k = (one, is, k)

  pub head_is : (place : ℕ) (h : Bytes) → IsHeadAt program r place h → head_at program r place ≡ Some h
  head_is place h (one, is, k) = ap (option_and_then (λ (n : Naming). head_of program n.of)) is ∙ k

module _ (program : List ModuleParts) (r : Reaching) (all_reached : AreReached program r)
    (params : List Parameter) where
  -- the name of a type parameter that may stand for a capability
  only_it : (b : Bool) (name h : Bytes) → Among h (if b then name ∷ [] else []) → (b ≡ true) × (name ≡ h)
  only_it true name h (inl same) = (refl, same)
  only_it true name h (inr none) = absurd none
  only_it false name h none = absurd none

  among_it : (b : Bool) (name : Bytes) → b ≡ true → Among name (if b then name ∷ [] else [])
  among_it b name e = subst (λ c. Among name (if c then name ∷ [] else [])) (sym e) (inl refl)

  pub reached_by : (all : List Mention) (h : Bytes) → Contains (entries program r params all) h
      → Reaches program params all h
  reached_by all h c = by found.0 (contains all found.0 found.1) found.2
    where
      found : (m : Mention) × Among m all × Among h (entries_in program r params m)
      found = among-flat_map (entries_in program r params) all h (among (entries program r params all) h c)

      by : (m : Mention) → Contains all m → Among h (entries_in program r params m)
          → Reaches program params all h
      by (declared at) there h_in =
          let one = among_kept (head_at program r) (places r at) h h_in in
          a_head at h there
          ((all_reached at h).0 (one.0, contains (places r at) one.0 one.1, is_head program r one.0 h one.2))
      by (generic name) there h_in =
          let one = only_it (may_stand params name) name h h_in in
          subst (Reaches program params all) one.1 (a_parameter name there one.0)

  pub by_reached : (all : List Mention) (h : Bytes) → Reaches program params all h
      → Contains (entries program r params all) h
  by_reached all h (a_head at k there reach) =
      let one = (all_reached at h).1 reach in
      contains (entries program r params all) h
      (among-flat_map_from (entries_in program r params) all (declared at) h (among all (declared at) there)
      (kept_among (head_at program r) (places r at) one.0 h (among (places r at) one.0 one.1)
      (head_is program r one.0 h one.2)))
  by_reached all h (a_parameter name there e) =
      contains (entries program r params all) name
      (among-flat_map_from (entries_in program r params) all (generic name) name
      (among all (generic name) there)
      (among_it (may_stand params name) name e))

  -- so the list of the entries is that of what is reached
  pub entries_listed : (all : List Mention) (texts : List Bytes) → texts ≡ entries program r params all
      → (list : List Bytes) → IsListOf (Contains texts) list → IsListOf (Reaches program params all) list
  entries_listed all texts are list is = record {
    ascends = is.ascends;
    all = λ h reached. is.all h
        (subst (λ (xs : List Bytes). Contains xs h) (sym are) (by_reached all h reached));
    only = λ h has. reached_by all h (subst (λ (xs : List Bytes). Contains xs h) are (is.only h has));
  }

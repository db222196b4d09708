-- What has come along is not put again.
use Rattle.std.proofs.Common.{
  ◌≡◌,
  ◌⊎◌,
  inl,
  inr,
  Bool,
  true,
  false,
  not,
  cond,
  List,
  [],
  ◌∷◌,
  ◌++◌,
  Option,
  Some,
  refl,
  sym,
  ap,
  ◌∙◌,
  true≢false,
}
use Rattle.std.specs.Prelude.{◌||◌, slice_get}
use Rattle.std.proofs.lemmas.Bool.{and_parts, and_from, or_cases}
use Rattle.au_syntax.specs.Plain.{Bytes, PlainModule}
use Rattle.au_types.specs.Tables.{has_name, with_all, with_pair}
use Rattle.au_types.proofs.TableLemmas.{with_pair-old}
use Rattle.au_types.specs.declared.types.DeclAt.{DeclAt}
use Rattle.au_types.specs.Rows.{same_place}
use Rattle.au_types.proofs.SameLemmas.{place_is}
use Rattle.au_modules.specs.Programs.{ModuleParts}
use Rattle.au_modules.specs.Seen.{interface_tree}
use Rattle.au_names.specs.declared.targets.Target.{Target}
use Rattle.au_names.specs.Along.{all_named, is_among, members_in, with_declaration, AreAlong}
use Rattle.au_names.specs.Exporting.{declarations_seen, members_at}
use Rattle.au_names.proofs.ExportLemmas.{interface_seen}
use Rattle.au_names.proofs.PutLemmas.{has-put, has-stays}

-- ---- names in a table

-- a name stays as more are put
has-after : (name : Bytes) (table pairs : List (Bytes × Target)) → has_name name table ≡ true
    → has_name name (with_all table pairs) ≡ true
unfolding with_all
has-after name table [] h = h
has-after name table (p ∷ ps) h = has-after name (with_pair table p.0 p.1) ps (has-stays name table p.0 p.1 h)

-- so do all of several
named-after : (table pairs more : List (Bytes × Target)) → all_named table pairs ≡ true
    → all_named (with_all table more) pairs ≡ true
named-after table [] more h = refl
named-after table (p ∷ ps) more h =
    let both = and_parts (has_name p.0 table) (all_named table ps) h in
    and_from (has_name p.0 (with_all table more)) (all_named (with_all table more) ps)
    (has-after p.0 table more both.0) (named-after table ps more both.1)

-- what is put is there
named-put : (table pairs : List (Bytes × Target)) → all_named (with_all table pairs) pairs ≡ true
unfolding with_all
named-put table [] = refl
named-put table (p ∷ ps) =
    let next = with_pair table p.0 p.1 in
    and_from (has_name p.0 (with_all next ps)) (all_named (with_all next ps) ps)
    (has-after p.0 next ps (has-put table p.0 p.1)) (named-put next ps)

-- what is there is not put again
named-again : (table pairs : List (Bytes × Target)) → all_named table pairs ≡ true
    → with_all table pairs ≡ table
unfolding with_all
named-again table [] h = refl
named-again table (p ∷ ps) h =
    let both = and_parts (has_name p.0 table) (all_named table ps) h in
    ap (λ t. with_all t ps) (with_pair-old table p.0 p.1 both.0) ∙ named-again table ps both.1

-- ---- sets of declarations

any_behind : (at one : DeclAt) (some : List DeclAt) → is_among at (some ++ one ∷ []) ≡ true
    → (is_among at some ≡ true) ⊎ (at ≡ one)
any_behind at one [] h = elim (or_cases (same_place at one) false h) as (λ s. (is_among at [] ≡ true)
    ⊎ (at ≡ one)) [ inl e ↦ inr (place_is at one e) | inr e ↦ absurd (true≢false (sym e)) ]
any_behind at one (x ∷ xs) h = by (same_place at x) refl
    (or_cases (same_place at x) (is_among at (xs ++ one ∷ [])) h) (any_behind at one xs)
  where
    by : (b : Bool) → same_place at x ≡ b → (same_place at x ≡ true) ⊎ (is_among at (xs ++ one ∷ []) ≡ true)
        → (is_among at (xs ++ one ∷ []) ≡ true → (is_among at xs ≡ true) ⊎ (at ≡ one))
        → ((same_place at x || is_among at xs) ≡ true) ⊎ (at ≡ one)
    by true e found rest = inl (ap (λ c. c || is_among at xs) e)
    by false e (inl here) rest = absurd (true≢false (sym here ∙ e))
    by false e (inr there) rest = elim (rest there) as (λ s. ((same_place at x || is_among at xs) ≡ true)
        ⊎ (at ≡ one)) [ inl k ↦ inl (ap (λ c. c || is_among at xs) e ∙ k) | inr k ↦ inr k ]

-- one of some with one more is one of them, or this one
pub among_more : (at one : DeclAt) (some : List DeclAt) → is_among at (with_declaration some one) ≡ true
    → (is_among at some ≡ true) ⊎ (at ≡ one)
among_more at one some h = by (is_among one some) refl
  where
    by : (b : Bool) → is_among one some ≡ b → (is_among at some ≡ true) ⊎ (at ≡ one)
    by true e = inl (sym (ap (λ c. is_among at (cond c some (some ++ one ∷ []))) e) ∙ h)
    by false e = any_behind at one some (sym (ap (λ c. is_among at (cond c some (some ++ one ∷ []))) e) ∙ h)

-- one that isn't new is one of them
pub was_among : (at : DeclAt) (some : List DeclAt) (fresh : Bool) → fresh ≡ not (is_among at some)
    → fresh ≡ false → is_among at some ≡ true
was_among at some fresh is old = by (is_among at some) (sym is ∙ old)
  where
    by : (b : Bool) → not b ≡ false → b ≡ true
    by true e = refl
    by false e = absurd (true≢false e)

-- ---- what has come along

-- nothing has come along with none
pub along_none : (program : List ModuleParts) (some : List DeclAt) (table : List (Bytes × Target))
    → some ≡ [] → AreAlong program some table
along_none program some table none at m among here = absurd (true≢false (sym among ∙ ap (is_among at) none))

-- it is in the table as more is put
pub along_stays : (program : List ModuleParts) (some : List DeclAt)
    (before after more : List (Bytes × Target)) → AreAlong program some before → after ≡ with_all before more
    → AreAlong program some after
along_stays program some before after more old new at m among here =
    ap (λ t. all_named t (members_in at m)) new ∙ named-after before (members_in at m) more
    (old at m among here)

-- what has come along is not put again
pub along_again : (program : List ModuleParts) (some : List DeclAt) (table : List (Bytes × Target))
    (at : DeclAt) (m : ModuleParts) → AreAlong program some table → is_among at some ≡ true
    → slice_get program at.«module» ≡ Some m → table ≡ with_all table (members_in at m)
along_again program some table at m old among here =
    sym (named-again table (members_in at m) (old at m among here))

-- nothing changes with one that is one of them
pub along_same : (program : List ModuleParts) (one : DeclAt) (some next : List DeclAt)
    (table : List (Bytes × Target)) → AreAlong program some table → is_among one some ≡ true
    → next ≡ with_declaration some one → AreAlong program next table
along_same program one some next table old among is at m there here =
    old at m (sym (ap (is_among at) (is ∙ ap (λ c. cond c some (some ++ one ∷ [])) among)) ∙ there) here

-- the cases or methods of a declaration, by the file in which it is
pub along_file : (at : DeclAt) (m : ModuleParts) (file : Option PlainModule)
    → file ≡ interface_tree (Some m) → members_at at.«module» at.decl (declarations_seen file)
    ≡ members_in at m
along_file at m file seen = ap (λ ds. members_at at.«module» at.decl ds)
    (ap declarations_seen seen ∙ sym (interface_seen m))

-- a declaration more comes along
pub along_more : (program : List ModuleParts) (some : List DeclAt) (one : DeclAt)
    (before after more : List (Bytes × Target)) → AreAlong program some before → after ≡ with_all before more
    → ((m : ModuleParts) → slice_get program one.«module» ≡ Some m → more ≡ members_in one m)
    → AreAlong program (with_declaration some one) after
along_more program some one before after more old new those at m among here =
    by (among_more at one some among)
  where
    by : (is_among at some ≡ true) ⊎ (at ≡ one) → all_named after (members_in at m) ≡ true
    by (inl earlier) = along_stays program some before after more old new at m earlier here
    by (inr is) =
        let there : slice_get program one.«module» ≡ Some m = ap (λ d. slice_get program d.«module») (sym is)
        ∙ here in
        ap (λ d. all_named after (members_in d m)) is
        ∙ ap (λ t. all_named t (members_in one m)) new
        ∙ ap (λ r. all_named (with_all before more) r) (sym (those m there))
        ∙ named-put before more

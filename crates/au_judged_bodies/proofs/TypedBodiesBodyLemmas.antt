-- The parameters of a body, one after another, and its result.
use Rattle.std.proofs.Common.{◌≡◌, ℕ, suc, ◌+◌, Bool, true, List, [], ◌∷◌, length, Option, None, Some, Ok}
use Rattle.std.proofs.Common.{Err}
use Rattle.std.proofs.Common.{refl, sym, ap, ◌∙◌, subst, arith}
use Rattle.std.proofs.lemmas.Option.{none-some, same_Some}
use Rattle.au_syntax.specs.Modules.{Constrained, Header}
use Rattle.au_syntax.specs.Plain.{Bytes}
use Rattle.au_syntax.specs.Types.{Labelled, WrittenType}
use Rattle.au_types.specs.Types.{Meaning, unit}
use Rattle.au_matching.specs.Bindings.{Bindings, value_of}
use Rattle.au_matching.specs.Substituted.{region_for}
use Rattle.au_judged_types.specs.Bounds.{parameters}
use Rattle.au_type_texts.specs.Given.{Given, closed_under}
use Rattle.au_type_texts.specs.Types.{ClosedType}
use Rattle.au_running_types.specs.Running.{is_lasting, running}
use Rattle.au_running_types.proofs.NameLemmas.{type_lasts}
use Rattle.au_written_types.specs.Written.{IsRegionName}
use Rattle.au_memory.specs.Loans.{Types}
use Rattle.au_typing.specs.Bodies.{body_scope, generics_in, outer_scope, with_parameters, with_result}
use Rattle.au_typing.specs.Faults.{Noting, ◌>>=◌}
use Rattle.au_typing.specs.InScope.{fixed_variable, with_variable}
use Rattle.au_typing.specs.Lookups.{written_type}
use Rattle.au_typing.specs.Notes.{Note}
use Rattle.au_typing.specs.Scopes.{Outside, Scope}
use Rattle.au_meaning.specs.Names as meaning
use Rattle.au_meaning.specs.Views.{View}
use Rattle.au_known_types.specs.Known.{IsKnownIn, OutsideIsKnown, ScopeIsKnown}
use Rattle.au_known_types.proofs.KnownLemmas.{unit_known}
use Rattle.au_known_types.proofs.NotedLemmas.{written_known}
use Rattle.au_running_lives.specs.Blocks.{with_types}
use Rattle.au_running_lives.specs.Known.{Callables, InScope}
use Rattle.au_running_lives.specs.Lives.{put}
use Rattle.au_judged_bodies.specs.Frames.{TypesAreUsable}
use Rattle.au_judged_bodies.specs.Rounds.{PlaceFits, RoundFits}
use Rattle.au_judged_bodies.proofs.TypedBlocksPlaceLemmas.{place_later, place_with}
use Rattle.au_judged_bodies.specs.Begun.{AreMeant, BodyBegins, fields_given, kinds_given}

abbrev kept : Noting Scope → Option Scope
kept (Ok sc) = Some sc
kept (Err fault) = None

module _ (types : Types) (owner : ClosedType → Option (List ℕ)) {I K : Type 0} (see : View I Note (Unit {0}))
    (known : Callables I K) (may_hand : Meaning → Type 0) (given : Given) (Stands : Bindings → Type 0) where
  abbrev Place : Meaning → (ℕ → Bool) → ℕ → Scope → meaning.Scope → Bindings → (ℕ → Meaning) → Type 0
  Place result active number sc scope s names =
      PlaceFits types owner see known may_hand given Stands result active number sc scope s names

  -- a scope that differs from another in its variables alone gives written types what that gives
  abbrev WritesAlike : Scope → Scope → Type 0
  WritesAlike cur sc = (t : WrittenType) → written_type cur t ≡ written_type sc t

  record Added (result : Meaning) (active : ℕ → Bool) (number : ℕ) (sc : Scope) (scope : meaning.Scope) (s : Bindings)
      (names : ℕ → Meaning) (ps : List (Labelled Bytes)) (last : Scope) : Type 0 where
    ofs : List Meaning
    are : AreMeant sc ps ofs
    alike : WritesAlike last sc
    place : Place result active (number + length ofs) last
        (meaning.with_parameters number (fields_given given ps ofs) scope) s
        (with_types number (kinds_given s ofs) names)

  module _ (result : Meaning) (active : ℕ → Bool) (sc : Scope) (s : Bindings) where
    one_more : (p : Labelled Bytes) (rest : List (Labelled Bytes)) (of : Meaning) (number : ℕ) (cur : Scope)
        (scope : meaning.Scope) (names : ℕ → Meaning) (last : Scope) → written_type sc p.of ≡ Ok of
        → Added result active (suc number) sc
        (meaning.with_name p.name.name number (Some (closed_under given of)) scope) s
        (put number (running s 0 of) names) rest last
        → Added result active number sc scope s names (p ∷ rest) last
    one_more p rest of number cur scope names last e its = record {
      ofs = of ∷ its.ofs;
      are = (e, its.are);
      alike = its.alike;
      place = subst (λ n. Place result active (number + suc (length its.ofs)) last
          (meaning.with_parameters n (fields_given given rest its.ofs)
          (meaning.with_name p.name.name number (Some (closed_under given of)) scope)) s
          (with_types (suc number) (kinds_given s its.ofs) (put number (running s 0 of) names))) same
          (place_later types owner see known may_hand given Stands result active (suc number + length its.ofs)
          (number + suc (length its.ofs)) last
          (meaning.with_parameters (suc number) (fields_given given rest its.ofs)
          (meaning.with_name p.name.name number (Some (closed_under given of)) scope)) s
          (with_types (suc number) (kinds_given s its.ofs) (put number (running s 0 of) names)) (omega arith)
          its.place);
    }
      where
        same : suc number ≡ number + 1
        same = omega arith

    added : (ps : List (Labelled Bytes)) (number : ℕ) (cur : Scope) (scope : meaning.Scope) (names : ℕ → Meaning)
        (last : Scope) → WritesAlike cur sc → Place result active number cur scope s names
        → with_parameters ps cur ≡ Ok last → Added result active number sc scope s names ps last
    added [] number cur scope names last alike p e =
        subst (Added result active number sc scope s names []) (same_Some cur last (ap kept e))
        (record {
          ofs = [];
          are = tt;
          alike = alike;
          place = place_later types owner see known may_hand given Stands result active number (number + 0) cur scope
              s names
              (omega arith) p;
        })
    added (q ∷ rest) number cur scope names last alike p e =
        by (written_type cur q.of) refl e
        (λ of is. added rest (suc number) (with_variable (fixed_variable q.name.name of) cur)
        (meaning.with_name q.name.name number (Some (closed_under given of)) scope) (put number (running s 0 of) names)
        last alike
        (place_with types owner see known may_hand given Stands result active number cur scope s names p (suc number)
        (fixed_variable q.name.name of) (Some (closed_under given of)) (running s 0 of) (omega arith)
        (written_known cur q.of of is).0 (written_known cur q.of of is).1 refl
        (λ z. type_lasts s 0 z of (written_known cur q.of of is).1)))
      where
        by : (o : Noting Meaning) → written_type cur q.of ≡ o
            → (o >>= λ of. with_parameters rest (with_variable (fixed_variable q.name.name of) cur)) ≡ Ok last
            → ((of : Meaning) → written_type cur q.of ≡ Ok of
            → with_parameters rest (with_variable (fixed_variable q.name.name of) cur) ≡ Ok last
            → Added result active (suc number) sc
            (meaning.with_name q.name.name number (Some (closed_under given of)) scope) s
            (put number (running s 0 of) names) rest last)
            → Added result active number sc scope s names (q ∷ rest) last
        by (Err fault) is e later = absurd (none-some last (ap kept e))
        by (Ok of) is e later =
            one_more q rest of number cur scope names last (sym (alike q.of) ∙ is) (later of is e)

  -- the frame where the type of the result is known
  with_its_result : (result : Meaning) (active : ℕ → Bool) (number : ℕ) (sc : Scope) (scope : meaning.Scope)
      (s : Bindings) (names : ℕ → Meaning) (of : Meaning) → Place result active number sc scope s names
      → IsKnownIn sc of → is_lasting of ≡ true
      → Place (running s 0 of) active number (record sc { result = of }) scope s names
  with_its_result result active number sc scope s names of p whole last = record {
    round = p.round;
    knows = record {
      outside = p.knows.outside;
      variables = p.knows.variables;
      lasting = p.knows.lasting;
      result = (whole, last);
    };
    good = p.good;
    variables = p.variables;
    others = p.others;
    regions = p.regions;
    within = p.within;
    returns = λ z. type_lasts s z 0 of last;
  }

  pub body_begins : (outside : Outside) (generics : List (Constrained Bytes)) (header : Header Bytes) (scope : Scope)
      → body_scope outside generics header ≡ Ok scope → OutsideIsKnown outside
      → RoundFits types owner see known may_hand outside (generics_in outside generics) given Stands
      → (active : ℕ → Bool) (first : ℕ) (s : Bindings) (names : ℕ → Meaning) → Stands s
      → ((name : List ℕ) → IsRegionName [] (parameters (generics_in outside generics)) name
      → InScope active (region_for (value_of name s) name))
      → TypesAreUsable active (parameters (generics_in outside generics)) s
      → BodyBegins types owner see known may_hand given Stands active first s names
      (outer_scope outside (generics_in outside generics)) header.parameters scope
  body_begins outside generics header scope formed out round active first s names stands regions within =
      by (with_parameters header.parameters (outer_scope outside (generics_in outside generics))) refl formed
    where
      outer : Scope
      outer = outer_scope outside (generics_in outside generics)

      outer_known : ScopeIsKnown (outer_scope outside (generics_in outside generics))
      outer_known = record {
        outside = out;
        variables = λ name v e. absurd (none-some v e);
        lasting = λ name v e. absurd (none-some v e);
        result = (unit_known outside.heads (parameters (generics_in outside generics)) [], refl);
      }

      begun : Place unit active first (outer_scope outside (generics_in outside generics)) [] s names
      begun = record {
        round = round;
        knows = outer_known;
        good = stands;
        variables = λ name v e. absurd (none-some v e);
        others = λ name e. refl;
        regions = regions;
        within = within;
        returns = λ z. refl;
      }

      finish : (sc : Scope)
          → Added unit active first (outer_scope outside (generics_in outside generics)) [] s names header.parameters sc
          → (o : Noting Meaning) → written_type sc header.result ≡ o
          → (o >>= λ of. Ok (record sc { result = of })) ≡ Ok scope
          → BodyBegins types owner see known may_hand given Stands active first s names
          (outer_scope outside (generics_in outside generics)) header.parameters scope
      finish sc its (Err fault) is e = absurd (none-some scope (ap kept e))
      finish sc its (Ok of) is e =
          let whole = written_known sc header.result of is in
          subst (BodyBegins types owner see known may_hand given Stands active first s names
          (outer_scope outside (generics_in outside generics)) header.parameters)
          (same_Some (record sc { result = of }) scope (ap kept e))
          (record {
            ofs = its.ofs;
            are = its.are;
            place = with_its_result unit active (first + length its.ofs) sc
                (meaning.with_parameters first (fields_given given header.parameters its.ofs) []) s
                (with_types first (kinds_given s its.ofs) names) of its.place whole.0 whole.1;
          })

      by : (o : Noting Scope)
          → with_parameters header.parameters (outer_scope outside (generics_in outside generics)) ≡ o
          → (o >>= λ sc. with_result header.result sc) ≡ Ok scope
          → BodyBegins types owner see known may_hand given Stands active first s names
          (outer_scope outside (generics_in outside generics)) header.parameters scope
      by (Err fault) is e = absurd (none-some scope (ap kept e))
      by (Ok sc) is e =
          finish sc
          (added unit active (outer_scope outside (generics_in outside generics)) s header.parameters first
          (outer_scope outside (generics_in outside generics)) [] names sc (λ t. refl) begun is)
          (written_type sc header.result) refl e

-- Which tokens a call needs, and the ways in which calls are made, whatever they do.
use Rattle.std.proofs.Common.{inl, inr, ℕ, Bool, List, [], ◌∷◌, Option, refl}
use Rattle.au_shipped.specs.declared.prims.ShippedCall.{ShippedCall}
use Rattle.au_shipped.specs.declared.prims.ShippedCall.TheVariants as prim
use Rattle.au_type_texts.specs.Types.{ClosedType}
use Rattle.au_types.specs.declared.types.Region.{Region}
use Rattle.au_types.specs.Types.{Meaning}
use Rattle.au_memory.specs.Loans.{Types}
use Rattle.au_meaning.specs.Views.{Act, View, invokes, makes, ships}
use Rattle.au_running_judgements.specs.Expressions.{Performs}
use Rattle.au_running_judgements.specs.Known.{AreActive, Callables, InScope}
use Rattle.au_running_judgements.specs.Shipping.{Ships}

-- Something holds wherever some tokens are active, and here they are.
pub record Always (active : ℕ → Bool) (Holds : (ℕ → Bool) → Type 0) : Type 0 where
  pub tokens : List ℕ
  pub are : AreActive active tokens
  pub holds : (more : ℕ → Bool) → AreActive more tokens → Holds more

-- what goes by no token
plain : (active : ℕ → Bool) (A : Type 0) → A → Always active (λ more. A)
plain active A a = record { tokens = []; are = tt; holds = λ more on. a }

-- a region that may be used may be used wherever its token is active
in_scope : (active : ℕ → Bool) (region : Region) → InScope active region → Always active (λ more. InScope more region)
in_scope active region (inl static) = record { tokens = []; are = tt; holds = λ more on. inl static }
in_scope active region (inr (z, is, on)) =
    record { tokens = z ∷ []; are = (on, tt); holds = λ more all. inr (z, is, all.0) }

-- what follows from that of a region
by_scope : (active : ℕ → Bool) (region : Region) (Q : (ℕ → Bool) → Type 0) → InScope active region
    → ((more : ℕ → Bool) → InScope more region → Q more) → Always active Q
by_scope active region Q scope so =
    let its = in_scope active region scope in
    record { tokens = its.tokens; are = its.are; holds = λ more on. so more (its.holds more on) }

module _ (types : Types) (owner : ClosedType → Option (List ℕ)) (active : ℕ → Bool) (born : Option ClosedType)
    (kinds : List Meaning) (t : Meaning) where
  -- a shipped call
  abbrev Shipped : ShippedCall → Type 0
  Shipped call = Always active (λ more. Ships types owner more call born kinds t)

  ships_always : (call : ShippedCall) → Ships types owner active call born kinds t → Shipped call
  ships_always prim.PrintText h = plain active _ h
  ships_always prim.PrintInt h = plain active _ h
  ships_always prim.PrintBool h = plain active _ h
  ships_always prim.PrintLnText h = plain active _ h
  ships_always prim.PrintLnInt h = plain active _ h
  ships_always prim.PrintLnBool h = plain active _ h
  ships_always (prim.Wrap op kind) h = plain active _ h
  ships_always (prim.Convert to) h = plain active _ h
  ships_always prim.SurrenderRoot h = plain active _ h
  ships_always prim.Abort h = plain active _ h
  ships_always prim.SpanLength h = plain active _ h
  ships_always prim.Swap (none, (region, scope, is)) =
      by_scope active region _ scope (λ more on. (none, (region, on, is)))
  ships_always prim.MakeBox h = plain active _ h
  ships_always prim.Unbox h = plain active _ h
  ships_always prim.BoxGet (of, content, region, none, boxed, scope, takes, gives) =
      by_scope active region _ scope (λ more on. (of, content, region, none, boxed, on, takes, gives))
  ships_always prim.BoxGetMut (of, content, region, none, boxed, scope, takes, gives) =
      by_scope active region _ scope (λ more on. (of, content, region, none, boxed, on, takes, gives))
  ships_always prim.MakeEmpty h = plain active _ h
  ships_always prim.DestroyEmpty h = plain active _ h
  ships_always prim.Length (of, item, none, buffered, (region, scope, is), gives) =
      by_scope active region _ scope (λ more on. (of, item, none, buffered, (region, on, is), gives))
  ships_always prim.InsertBack (of, item, none, buffered, (region, scope, is), gives) =
      by_scope active region _ scope (λ more on. (of, item, none, buffered, (region, on, is), gives))
  ships_always prim.RemoveBack (of, none, buffered, (region, scope, is)) =
      by_scope active region _ scope (λ more on. (of, none, buffered, (region, on, is)))
  ships_always prim.Nth (of, none, buffered, free, (region, scope, is)) =
      by_scope active region _ scope (λ more on. (of, none, buffered, free, (region, on, is)))
  ships_always prim.ReplaceNth (of, none, buffered, (region, scope, is)) =
      by_scope active region _ scope (λ more on. (of, none, buffered, (region, on, is)))
  ships_always prim.AcquireTerminal (of, root, terminal, (region, scope, is), births) =
      by_scope active region _ scope (λ more on. (of, root, terminal, (region, on, is), births))
  ships_always prim.ReadByte (of, none, terminal, (region, scope, is), gives) =
      by_scope active region _ scope (λ more on. (of, none, terminal, (region, on, is), gives))
  ships_always prim.WriteByte (of, none, terminal, (region, scope, is), gives) =
      by_scope active region _ scope (λ more on. (of, none, terminal, (region, on, is), gives))
  ships_always prim.ReleaseTerminal h = plain active _ h

module _ (types : Types) (owner : ClosedType → Option (List ℕ)) {I T C K : Type 0} (see : View I T C)
    (known : Callables I K) where
  -- a call, whatever it does
  performs_always : (active : ℕ → Bool) (act : Act I) (kinds : List Meaning) (t : Meaning)
      → Performs types owner see known active act kinds t
      → Always active (λ more. Performs types owner see known more act kinds t)
  performs_always active (invokes one) kinds t (key, of, takes, gives, on) =
      record { tokens = known.tokens key; are = on; holds = λ more all. (key, of, takes, gives, all) }
  performs_always active (makes of tag home) kinds t h = plain active _ h
  performs_always active (ships call born) kinds t h = ships_always types owner active born kinds t call h

  -- A way in which a call is made, whatever it does: what it does, the types of its arguments and of its value,
  -- and tokens; wherever these are active, it may be made so.
  pub record Performed : Type 0 where
    pub act : Act I
    pub kinds : List Meaning
    pub result : Meaning
    pub tokens : List ℕ
    pub performs : (active : ℕ → Bool) → AreActive active tokens
        → Performs types owner see known active act kinds result

  abbrev pub performed : Callables (Act I) Performed
  performed = record {
    of = λ one. one.act;
    parameters = λ one. one.kinds;
    result = λ one. one.result;
    tokens = λ one. one.tokens;
  }

  -- the way in which a function is called
  abbrev pub invoked : K → Performed
  invoked key = record {
    act = invokes (known.of key);
    kinds = known.parameters key;
    result = known.result key;
    tokens = known.tokens key;
    performs = λ active on. (key, refl, refl, refl, on);
  }

  -- A call that may be made here is made in one of these ways, as another view knows it.
  pub performed_in : {U D : Type 0} (other : View (Act I) U D) (active : ℕ → Bool) (act : Act I)
      (kinds : List Meaning) (t : Meaning)
      → Performs types owner see known active act kinds t
      → Performs types owner other performed active (invokes act) kinds t
  performed_in other active act kinds t h =
      let its = performs_always active act kinds t h in (
        record { act = act; kinds = kinds; result = t; tokens = its.tokens; performs = its.holds },
        refl,
        refl,
        refl,
        its.are,
      )

-- Each kind wraps by its bits and its sign.
use Rattle.au_base.specs.declared.kinds.IntKind.TheVariants.{Nat8, Nat16, Nat32, Nat64, Int8, Int16, Int32}
use Rattle.au_base.specs.declared.kinds.IntKind.TheVariants.{Int64, Index}
use Rattle.std.proofs.Common.{FitsSigned, rules}
use Rattle.std.specs.Int.{w128}
use Rattle.au_ints.specs.Operations.{exact, unwrapped}
use Rattle.au_ints.proofs.CallLemmas.{asked_at, wrapped_at}
use Rattle.au_ints.proofs.Turns.{kind_shape, wrapped_is}
use Rattle.au_ints.proofs.calls.wrap.Goals as goal

pub wrap-requires : goal.wrap-requires
wrap-requires c = record {
  shape = kind_shape Nat8;
  first = asked_at c.args.kind Nat8 c.args.a c.in-Nat8.is
      c.ranges.a c.requires.first;
  second = asked_at c.args.kind Nat8 c.args.b c.in-Nat8.is c.ranges.b
      c.requires.second;
}

pub returns-in-Nat8 : goal.returns-in-Nat8
returns-in-Nat8 c =
    let fits : FitsSigned w128 c.wrap.result = search rules in
    let turned = wrapped_at (unwrapped c.args.op) c.args.kind Nat8 c.args.a c.args.b c.wrap.result
    c.in-Nat8.is c.ranges.a c.ranges.b fits c.wrap.ensures in
    record { turned = turned; value = wrapped_is c.args.kind (exact (unwrapped c.args.op) c.args.a c.args.b) _ turned }

pub wrap-requires-in-Nat16 : goal.wrap-requires-in-Nat16
wrap-requires-in-Nat16 c = record {
  shape = kind_shape Nat16;
  first = asked_at c.args.kind Nat16 c.args.a c.in-Nat16.is c.ranges.a
      c.requires.first;
  second = asked_at c.args.kind Nat16 c.args.b c.in-Nat16.is c.ranges.b c.requires.second;
}

pub returns-in-Nat16 : goal.returns-in-Nat16
returns-in-Nat16 c =
    let fits : FitsSigned w128 c.wrap-in-Nat16.result = search rules in
    let turned = wrapped_at (unwrapped c.args.op) c.args.kind Nat16 c.args.a c.args.b c.wrap-in-Nat16.result
    c.in-Nat16.is c.ranges.a c.ranges.b fits c.wrap-in-Nat16.ensures in
    record { turned = turned; value = wrapped_is c.args.kind (exact (unwrapped c.args.op) c.args.a c.args.b) _ turned }

pub wrap-requires-in-Nat32 : goal.wrap-requires-in-Nat32
wrap-requires-in-Nat32 c = record {
  shape = kind_shape Nat32;
  first = asked_at c.args.kind Nat32 c.args.a c.in-Nat32.is c.ranges.a
      c.requires.first;
  second = asked_at c.args.kind Nat32 c.args.b c.in-Nat32.is c.ranges.b c.requires.second;
}

pub returns-in-Nat32 : goal.returns-in-Nat32
returns-in-Nat32 c =
    let fits : FitsSigned w128 c.wrap-in-Nat32.result = search rules in
    let turned = wrapped_at (unwrapped c.args.op) c.args.kind Nat32 c.args.a c.args.b c.wrap-in-Nat32.result
    c.in-Nat32.is c.ranges.a c.ranges.b fits c.wrap-in-Nat32.ensures in
    record { turned = turned; value = wrapped_is c.args.kind (exact (unwrapped c.args.op) c.args.a c.args.b) _ turned }

pub wrap-requires-in-Nat64 : goal.wrap-requires-in-Nat64
wrap-requires-in-Nat64 c = record {
  shape = kind_shape Nat64;
  first = asked_at c.args.kind Nat64 c.args.a c.in-Nat64.is c.ranges.a
      c.requires.first;
  second = asked_at c.args.kind Nat64 c.args.b c.in-Nat64.is c.ranges.b c.requires.second;
}

pub returns-in-Nat64 : goal.returns-in-Nat64
returns-in-Nat64 c =
    let fits : FitsSigned w128 c.wrap-in-Nat64.result = search rules in
    let turned = wrapped_at (unwrapped c.args.op) c.args.kind Nat64 c.args.a c.args.b c.wrap-in-Nat64.result
    c.in-Nat64.is c.ranges.a c.ranges.b fits c.wrap-in-Nat64.ensures in
    record { turned = turned; value = wrapped_is c.args.kind (exact (unwrapped c.args.op) c.args.a c.args.b) _ turned }

pub wrap-requires-in-Int8 : goal.wrap-requires-in-Int8
wrap-requires-in-Int8 c = record {
  shape = kind_shape Int8;
  first = asked_at c.args.kind Int8 c.args.a c.in-Int8.is c.ranges.a
      c.requires.first;
  second = asked_at c.args.kind Int8 c.args.b c.in-Int8.is c.ranges.b c.requires.second;
}

pub returns-in-Int8 : goal.returns-in-Int8
returns-in-Int8 c =
    let fits : FitsSigned w128 c.wrap-in-Int8.result = search rules in
    let turned = wrapped_at (unwrapped c.args.op) c.args.kind Int8 c.args.a c.args.b c.wrap-in-Int8.result
    c.in-Int8.is c.ranges.a c.ranges.b fits c.wrap-in-Int8.ensures in
    record { turned = turned; value = wrapped_is c.args.kind (exact (unwrapped c.args.op) c.args.a c.args.b) _ turned }

pub wrap-requires-in-Int16 : goal.wrap-requires-in-Int16
wrap-requires-in-Int16 c = record {
  shape = kind_shape Int16;
  first = asked_at c.args.kind Int16 c.args.a c.in-Int16.is c.ranges.a
      c.requires.first;
  second = asked_at c.args.kind Int16 c.args.b c.in-Int16.is c.ranges.b c.requires.second;
}

pub returns-in-Int16 : goal.returns-in-Int16
returns-in-Int16 c =
    let fits : FitsSigned w128 c.wrap-in-Int16.result = search rules in
    let turned = wrapped_at (unwrapped c.args.op) c.args.kind Int16 c.args.a c.args.b c.wrap-in-Int16.result
    c.in-Int16.is c.ranges.a c.ranges.b fits c.wrap-in-Int16.ensures in
    record { turned = turned; value = wrapped_is c.args.kind (exact (unwrapped c.args.op) c.args.a c.args.b) _ turned }

pub wrap-requires-in-Int32 : goal.wrap-requires-in-Int32
wrap-requires-in-Int32 c = record {
  shape = kind_shape Int32;
  first = asked_at c.args.kind Int32 c.args.a c.in-Int32.is c.ranges.a
      c.requires.first;
  second = asked_at c.args.kind Int32 c.args.b c.in-Int32.is c.ranges.b c.requires.second;
}

pub returns-in-Int32 : goal.returns-in-Int32
returns-in-Int32 c =
    let fits : FitsSigned w128 c.wrap-in-Int32.result = search rules in
    let turned = wrapped_at (unwrapped c.args.op) c.args.kind Int32 c.args.a c.args.b c.wrap-in-Int32.result
    c.in-Int32.is c.ranges.a c.ranges.b fits c.wrap-in-Int32.ensures in
    record { turned = turned; value = wrapped_is c.args.kind (exact (unwrapped c.args.op) c.args.a c.args.b) _ turned }

pub wrap-requires-in-Int64 : goal.wrap-requires-in-Int64
wrap-requires-in-Int64 c = record {
  shape = kind_shape Int64;
  first = asked_at c.args.kind Int64 c.args.a c.in-Int64.is c.ranges.a
      c.requires.first;
  second = asked_at c.args.kind Int64 c.args.b c.in-Int64.is c.ranges.b c.requires.second;
}

pub returns-in-Int64 : goal.returns-in-Int64
returns-in-Int64 c =
    let fits : FitsSigned w128 c.wrap-in-Int64.result = search rules in
    let turned = wrapped_at (unwrapped c.args.op) c.args.kind Int64 c.args.a c.args.b c.wrap-in-Int64.result
    c.in-Int64.is c.ranges.a c.ranges.b fits c.wrap-in-Int64.ensures in
    record { turned = turned; value = wrapped_is c.args.kind (exact (unwrapped c.args.op) c.args.a c.args.b) _ turned }

pub wrap-requires-in-Index : goal.wrap-requires-in-Index
wrap-requires-in-Index c = record {
  shape = kind_shape Index;
  first = asked_at c.args.kind Index c.args.a c.in-Index.is c.ranges.a
      c.requires.first;
  second = asked_at c.args.kind Index c.args.b c.in-Index.is c.ranges.b c.requires.second;
}

pub returns-in-Index : goal.returns-in-Index
returns-in-Index c =
    let fits : FitsSigned w128 c.wrap-in-Index.result = search rules in
    let turned = wrapped_at (unwrapped c.args.op) c.args.kind Index c.args.a c.args.b c.wrap-in-Index.result
    c.in-Index.is c.ranges.a c.ranges.b fits c.wrap-in-Index.ensures in
    record { turned = turned; value = wrapped_is c.args.kind (exact (unwrapped c.args.op) c.args.a c.args.b) _ turned }

use Rattle.std.proofs.Common.{arith}
use Rattle.typecheck.proofs.AddAnswers.{refused_dims, refused_not_parallel, refused_too_high, boundary_allowed}
use Rattle.typecheck.proofs.signature.allowed_dim.Goals as goal

pub returns-then-not-parallel-clause-refused : goal.returns-then-not-parallel-clause-refused
returns-then-not-parallel-clause-refused c =
    refused_not_parallel c.args.store.now c.args.boundary c.in-Some.ends.0 c.in-Some.ends.1 c.in-Some.is
    (omega (arith, c.dim.ensures.dim, c.dim-dim.ensures.dim))
    (λ h. let q = c.parallel.ensures.1 h in cc)

pub returns-then-dim-ge-GREATEST_DIM-clause-refused : goal.returns-then-dim-ge-GREATEST_DIM-clause-refused
returns-then-dim-ge-GREATEST_DIM-clause-refused c =
    refused_too_high c.args.store.now c.args.boundary c.in-Some.ends.0 c.in-Some.ends.1 c.in-Some.is (c.parallel.ensures.0 c.if-not-parallel.false) (omega (arith, c.dim-dim.ensures.dim))

pub returns-clause-allowed : goal.returns-clause-allowed
returns-clause-allowed c =
    boundary_allowed c.args.store.now c.args.boundary c.in-Some.ends.0 c.in-Some.ends.1 c.in-Some.is (c.parallel.ensures.0 c.if-not-parallel.false) (omega (arith, c.dim-dim.ensures.dim))

use Rattle.std.proofs.Common.{◌++◌, drop, sym, ◌∙◌, rules}
use Rattle.io_edge.proofs.Bytes.{served, none_served}
use Rattle.io_edge.proofs.sure.SureSourceSource.read.Goals as goal

pub returns-clause-bytes : goal.returns-clause-bytes
returns-clause-bytes c =
    let bytes = c.self.inside.bytes.items in
    let at = c.self.inside.at in
    let n = c.min-count.result in
    let front = c.copy_from_slice.new.self in
    let rest = drop n c.args.into.now in (
      sym c.self.view_is ∙ served bytes c.args.into.now rest front at n (search rules) (search rules),
      none_served bytes c.args.into.now (front ++ rest) at n (search rules) (search rules),
    )

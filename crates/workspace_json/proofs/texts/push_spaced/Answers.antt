use Rattle.std.proofs.Common.{◌≡◌, ◌++◌, string_bytes, arith}
use Rattle.workspace_json.proofs.SpacedTexts.{spaced_first, spaced_next}
use Rattle.workspace_json.proofs.texts.push_spaced.Goals as goal
use Rattle.workspace_json.proofs.texts.push_spaced.Goals.{then-before-gt0+in_ok-push_str, else-before-gt0}

pub returns : goal.returns
returns c = λ texts many so_far.
    let last : string_bytes c.push_str-2.new.self ≡ string_bytes c.if-before-gt0.text ++ c.args.next.now = c.in_ok-push_str-2.ensures.bytes in
    elim c.if-before-gt0.branch [
      | then-before-gt0+in_ok-push_str w ↦
          let more = spaced_next texts c.args.next.now (omega arith) in
          cc (last, w.in_ok-push_str.ensures.bytes, w.text-is)
      | else-before-gt0 w ↦
          let more = spaced_first texts c.args.next.now (omega arith) in
          cc (last, w.text-is)
    ]

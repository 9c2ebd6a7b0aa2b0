use Rattle.{mg_show.specs.{DotText.{object_name, quoted, object_label}, Drawn.shape}, std.proofs.Common.{◌≡◌, ℕ, List, [], ◌∷◌, ◌++◌, append_assoc}}
use Rattle.std.proofs.Common.{arith, codes}
use Rattle.mg_show.proofs.graph_lines.print_object_node.Goals as goal

-- a text between quotes, of which each stands with the text beside it
quotes-around : (m c l : List ℕ) → ((m ++ (c ++ 34 ∷ [])) ++ l) ++ 34 ∷ 93 ∷ 10 ∷ [] ≡ (((m ++ c) ++ quoted l) ++ 93 ∷ []) ++ 10 ∷ []
quotes-around m c l = grind (arith, append_assoc)

pub returns : goal.returns
returns c =
    let row = c.args.row.now in
    rw (
      c.push_text-5.ensures.text,
      c.push_label.ensures.text,
      c.push_text-4.ensures.text,
      c.push_text-3.ensures.text,
      c.push_text-2.ensures.text,
      c.push_object_name.ensures.text,
      c.push_text.ensures.text,
      c.new-out.ensures,
      c.shape_of.ensures.text,
      c.base.ensures.value,
    )
    (quotes-around ((codes "  " ++ object_name row.base ++ codes " [shape=") ++ shape c.args.is_list) (codes " style=solid label=")
    (object_label row))

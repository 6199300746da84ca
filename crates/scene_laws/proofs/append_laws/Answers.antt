use Rattle.std.proofs.Common.{append-nil, add-zero}
use Rattle.scene_laws.proofs.Appends.{begins, associates}
use Rattle.scene_laws.proofs.append_laws.Goals as goal

pub returns : goal.returns
returns c = record {
  in_front = λ s o t. record {
    path_tags = begins _ _;
    path_data = begins _ _;
    draw_tags = begins _ _;
    draw_data = begins _ _;
    transforms = begins _ _;
    styles = begins _ _;
    patches = begins _ _;
    stops = begins _ _;
    glyphs = begins _ _;
    runs = begins _ _;
  };
  with_empty = λ s f. simp (append-nil, add-zero);
  associative = associates;
}

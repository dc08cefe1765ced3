use Rattle.std.proofs.Common.{◌≡◌, ◌<◌, ◌+◌, ◌-◌, suc, [], ◌∷◌, ◌++◌, length, map, string_bytes, vec_len, ◌∙◌, arith}
use Rattle.std.specs.Str.{IsUtf8}
use Rattle.std.proofs.lemmas.Str.{IsUtf8-drop}
use Rattle.std.proofs.lemmas.Grind.{common_steps}
use Rattle.rc_model.specs.Handed.Pieces.{longest_word, last_cut}
use Rattle.rc_image.proofs.Cuts.{cut_is, cut_next}
use Rattle.rc_image.proofs.image_pieces.cut.Goals as goal

pub loop-rest-preserved : goal.loop-rest-preserved
loop-rest-preserved c =
    let n = c.floor_char_boundary.result in
    let text = c.loop-rest.rest.now in
    let front = map string_bytes c.loop-rest.pieces.items in
    let utf8 : IsUtf8 c.split_at.result.1.now = rw c.split_at.ensures.back (IsUtf8-drop text n c.loop-rest.invariant.0 c.floor_char_boundary.ensures.boundary) in
    let more : map string_bytes c.push.new.self.items ≡ front ++ c.split_at.result.0.now ∷ [] = grind (arith, common_steps) in
    let count : vec_len c.push.new.self ≡ vec_len c.loop-rest.pieces + 1 = grind (arith, common_steps) in
    let room : 16 - vec_len c.loop-rest.pieces ≡ suc (16 - vec_len c.push.new.self) = omega arith in
    let some : 0 < length text = grind (arith, common_steps) in
    let place : last_cut longest_word text ≡ n =
    cut_is longest_word text n c.floor_char_boundary.ensures.bound c.floor_char_boundary.ensures.boundary c.floor_char_boundary.ensures.nearest in (
      utf8,
      omega arith,
      rw more (cut_next (16 - vec_len c.loop-rest.pieces) (16 - vec_len c.push.new.self) n front text
          c.split_at.result.0.now c.split_at.result.1.now some room place c.split_at.ensures.front c.split_at.ensures.back ∙ c.loop-rest.invariant.2),
    )

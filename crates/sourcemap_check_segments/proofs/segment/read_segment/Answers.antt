use Rattle.std.proofs.Common.{◌≡◌, ◌∙◌, ap, get_or, length, FitsSigned, rules}
use mir.Syntax.{w64}
use Rattle.sourcemap_check_segments.specs.Segments.{raws_of, is_count}
use Rattle.sourcemap_check_segments.specs.Steps.{small_raw}
use Rattle.sourcemap_check_segments.proofs.SegmentLemmas.{field_is, sound_is, is_count-min}
use Rattle.sourcemap_check_segments.proofs.segment.read_segment.Goals as goal

pub returns : goal.returns
returns c =
    let bytes = c.args.segment.now in
    let read = c.read_raws-read.ensures in
    let large = c.has_large-large.ensures (raws_of c.args.segment.now) c.read_raws-read.ensures.raws in
    let have = c.may_have.ensures ∙ (ap is_count c.read_raws-read.ensures.raws.count
    ∙ is_count-min (length (raws_of c.args.segment.now))) in
    let sound = sound_is bytes _ _ _ _ read.foreign c.ends_within-cut.ensures have large in
    let at_0 : get_or c.read_raws-read.result.five 0 0 ≡ small_raw (raws_of c.args.segment.now) 0 =
    ap (λ five. get_or five 0 0) c.read_raws-read.ensures.raws.five in
    let at_1 : get_or c.read_raws-read.result.five 1 0 ≡ small_raw (raws_of c.args.segment.now) 1 =
    ap (λ five. get_or five 1 0) c.read_raws-read.ensures.raws.five in
    let at_2 : get_or c.read_raws-read.result.five 2 0 ≡ small_raw (raws_of c.args.segment.now) 2 =
    ap (λ five. get_or five 2 0) c.read_raws-read.ensures.raws.five in
    let at_3 : get_or c.read_raws-read.result.five 3 0 ≡ small_raw (raws_of c.args.segment.now) 3 =
    ap (λ five. get_or five 3 0) c.read_raws-read.ensures.raws.five in
    let at_4 : get_or c.read_raws-read.result.five 4 0 ≡ small_raw (raws_of c.args.segment.now) 4 =
    ap (λ five. get_or five 4 0) c.read_raws-read.ensures.raws.five in
    let fits : FitsSigned w64 c.value_if.result = search rules in
    let fits_2 : FitsSigned w64 c.value_if-2.result = search rules in
    let fits_3 : FitsSigned w64 c.value_if-3.result = search rules in
    let fits_4 : FitsSigned w64 c.value_if-4.result = search rules in
    let fits_5 : FitsSigned w64 c.value_if-5.result = search rules in
    record {
      foreign = read.foreign;
      cut = c.ends_within-cut.ensures;
      count = read.raws.count;
      large = large;
      sound = sound;
      column = field_is bytes 0 _ _ _ at_0 sound c.value_if.ensures fits;
      source = field_is bytes 1 _ _ _ at_1 sound c.value_if-2.ensures fits_2;
      line = field_is bytes 2 _ _ _ at_2 sound c.value_if-3.ensures fits_3;
      source_column = field_is bytes 3 _ _ _ at_3 sound c.value_if-4.ensures fits_4;
      name = field_is bytes 4 _ _ _ at_4 sound c.value_if-5.ensures fits_5;
    }

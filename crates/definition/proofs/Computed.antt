-- The line `unfolding everything` opens all definitions of Luffa, so that the checker computes them.
use Rattle.definition.specs.Word.{bit, from_bits, rotl, word_of, bytes_of, bytes_of_all}
use Rattle.definition.specs.Block.{◌⊕◌, xor_all, words_of, words_of_all, block_from, word_at, block_of}
use Rattle.definition.specs.Field.{double, keep, times_to, times, element, times_x, multiple, product, carryless, remainder}
use Rattle.definition.specs.Injection.{matrix, row, inject}
use Rattle.definition.specs.SubCrumb.{S, sbox_input, sub_word, sub_crumb}
use Rattle.definition.specs.MixWord.{mix_word}
use Rattle.definition.specs.Constant.{polynomial, g, f_l, t_l, exchanged, constants_from, initial, constants}
use Rattle.definition.specs.Permutation.{tweak, on_halves, on_pairs, sub_crumbs, mix_words, add_constant, step, steps, permute}
use Rattle.definition.specs.Round.{permute_from, round, chain}
use Rattle.definition.specs.Padding.{padded_bits, byte_of, bytes_to, bytes_in, low_bits, bits_of_byte, bits_of, whole_bytes, bits_in, high_bits, closing_byte, padding, padded, blocks_to, blocks}
use Rattle.definition.specs.Width.{block_count, width_at}
use Rattle.definition.specs.Start.{starting_variables, start}
use Rattle.definition.specs.Final.{outputs, final_rounds, final}
use Rattle.definition.specs.Luffa.{words_at, bytes_at, limit_at, output_of, output_of_bits, luffa_output, luffa_of_bits, digest_after, luffa}
use Rattle.definition.specs.Refusal.{pick, first_of, numbers_of, condition_of, when_done, known, width_refusal, out_refusal}
use Rattle.definition.specs.State.{five, blocks_in, state_of}
use Rattle.definition.specs.Buffer.{overwrite_at}

unfoldable pub everything : Unit {0}
unfolding bit from_bits rotl word_of bytes_of bytes_of_all ◌⊕◌ xor_all words_of block_from word_at block_of double keep times_to times element times_x multiple product carryless remainder matrix row inject S sbox_input sub_word sub_crumb mix_word polynomial g f_l t_l exchanged constants_from initial constants tweak on_halves on_pairs sub_crumbs mix_words add_constant step steps permute permute_from round chain padded_bits byte_of bytes_to bytes_in low_bits bits_of_byte bits_of whole_bytes bits_in high_bits closing_byte padding padded blocks_to blocks block_count starting_variables start outputs final_rounds final width_at words_at bytes_at limit_at output_of output_of_bits luffa_output luffa_of_bits digest_after luffa pick first_of numbers_of condition_of known width_refusal out_refusal five blocks_in state_of overwrite_at words_of_all when_done
everything = tt

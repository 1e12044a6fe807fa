-- Document 01's rows marked P, proved together: they are computed at once.
-- Assumes nothing.
use mathlib.Core.Path.{refl}
use lib.Count.{count_leading_zeros}
use Rattle.bitstream.specs.Bits.{field, number, bits_of, ended}
use Rattle.bitstream.specs.Bytes.{bytes, pack, stored}
use Rattle.bitstream.specs.Reading.{read_field, read_bits, zero_prefix}
use Rattle.answers.specs.Machine.{elements, from}
use Rattle.codeword_books.specs.Books.{dc_book, run_book, level_book}
use Rattle.codeword.specs.Codewords.{log2, exp_golomb, combo, code, width, base, symbol, suffix, read_suffix, read_code}
use Rattle.codeword_signs.specs.Signs.{symbol_of, integer_of, turned}
use Rattle.entropy_elements.specs.Elements.{element_bits, ac_elements, dc_elements, elements_of, encode, bits as code_bits}
use Rattle.entropy_elements.specs.Decoding.{dc_to, run_to, level_to, step, decode}
use Rattle.entropy_elements.specs.Answers.{coefficient_arguments, decode_of, writing_of, encode_of}
use Rattle.bitstream.specs.Written.{written}
use Rattle.entropy_elements.specs.Limits.{in_range}
use Rattle.alpha_elements.specs.Kinds.{kind_of}
use Rattle.alpha_elements.specs.Limits.{samples_in_range as all_in_range}
use Rattle.alpha_elements.specs.Values.{residue, sample_of}
use Rattle.alpha_elements.specs.Elements.{run_bits, alpha_element_bits as alpha_element_bits, alpha_bits as alpha_bits, difference_element, run_elements, alpha_elements_of as alpha_elements, encode_alpha as encode_alpha}
use Rattle.alpha_elements.specs.Decoding.{difference_step, alpha_run_to as alpha_run_to, run_step, alpha_step as alpha_step, alpha_finish, decode_alpha as decode_alpha}
use Rattle.alpha_elements.specs.Answers.{alpha_arguments, decode_alpha_of, alpha_writing_of, encode_alpha_of}
use Rattle.rows.specs.Rows.{rows, Each}

pub table : Each rows
unfolding field number bits_of ended bytes pack stored read_field read_bits zero_prefix elements from dc_book run_book level_book count_leading_zeros log2 exp_golomb combo code width base symbol suffix read_suffix read_code symbol_of integer_of turned element_bits code_bits ac_elements dc_elements elements_of encode dc_to run_to level_to step decode coefficient_arguments decode_of in_range written writing_of encode_of kind_of all_in_range residue sample_of run_bits alpha_element_bits alpha_bits difference_element run_elements alpha_elements encode_alpha difference_step alpha_run_to run_step alpha_step alpha_finish decode_alpha alpha_arguments decode_alpha_of alpha_writing_of encode_alpha_of
table =
    ((refl, refl, refl), ((refl, refl, refl), ((refl, refl, refl), ((refl, refl, refl), ((refl, refl, refl), ((refl, refl, refl), ((refl, refl, refl), ((refl, refl, refl), ((refl, refl, refl), ((refl, refl, refl), ((refl, refl, refl), ((refl, refl, refl), ((refl, refl, refl), ((refl, refl, refl), ((refl, refl, refl), ((refl, refl, refl), tt))))))))))))))))

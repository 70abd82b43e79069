use Rattle.std.proofs.Common.{◌≡◌, ◌/◌, ◌%◌, sym, arith}
use Rattle.aes_tables.specs.Words.{bytes}
use Rattle.aes.specs.Cipher.{block}
use Rattle.aes.specs.KeyStream.{counter_block}
use Rattle.aes_tables.proofs.Words.{same-columns, same-four}
use Rattle.aes.proofs.key_stream.counter.Goals as goal

pub returns : goal.returns
unfolding bytes block counter_block
returns c =
    let n = c.args.c in
    let b0 : n / 1329227995784915872903807060280344576 % 256 ≡ 0 = omega arith in
    let b1 : n / 5192296858534827628530496329220096 % 256 ≡ 0 = omega arith in
    let b2 : n / 20282409603651670423947251286016 % 256 ≡ 0 = omega arith in
    let b3 : n / 79228162514264337593543950336 % 256 ≡ 0 = omega arith in
    let b4 : n / 309485009821345068724781056 % 256 ≡ 0 = omega arith in
    let b5 : n / 1208925819614629174706176 % 256 ≡ 0 = omega arith in
    let b6 : n / 4722366482869645213696 % 256 ≡ 0 = omega arith in
    let b7 : n / 18446744073709551616 % 256 ≡ 0 = omega arith in
    let b8 : n / 4294967296 / 16777216 % 256 ≡ n / 72057594037927936 % 256 = omega arith in
    let b9 : n / 4294967296 / 65536 % 256 ≡ n / 281474976710656 % 256 = omega arith in
    let b10 : n / 4294967296 / 256 % 256 ≡ n / 1099511627776 % 256 = omega arith in
    let b11 : n / 4294967296 % 256 ≡ n / 4294967296 % 256 = omega arith in
    let b12 : n % 4294967296 / 16777216 % 256 ≡ n / 16777216 % 256 = omega arith in
    let b13 : n % 4294967296 / 65536 % 256 ≡ n / 65536 % 256 = omega arith in
    let b14 : n % 4294967296 / 256 % 256 ≡ n / 256 % 256 = omega arith in
    let b15 : n % 4294967296 % 256 ≡ n / 1 % 256 = omega arith in
    same-columns (same-four (sym b0) (sym b1) (sym b2) (sym b3)) (same-four (sym b4) (sym b5) (sym b6) (sym b7)) (same-four b8 b9 b10 b11) (same-four b12 b13 b14 b15)
